-- Many vectors at once, 64 in a word (parallel-pattern simulation, as in textbooks of digital testing).
use Rattle.std.specs.Prelude.{◌≡◌, ◌<◌, ℕ, ◌/◌, ◌%◌, ◌^◌, ◌==◌, Bool, List, length, map, All, slice_index_or}
use Rattle.circuits.specs.declared.netlist.Lit.{Lit}
use Rattle.circuits.specs.declared.netlist.Gate.{Gate}
use Rattle.circuits.specs.Literals.{signal_of, is_negated}
use Rattle.circuits.specs.Netlists.{Net, function_of}
use Rattle.net_core.specs.Values.{with_values, words}
pub use Rattle.net_core.specs.Values.{signed_word}

-- A number of words, and a list of columns, each of n words.
pub record Table : Type 0 where
  pub words : ℕ
  pub columns : List (List ℕ)

-- each column has as many words as the table says
abbrev pub IsTable : Table → Type 0
IsTable table = All (λ column. length column ≡ table.words) table.columns

-- bit v of a word
abbrev pub word_bit : ℕ → ℕ → Bool
word_bit v word = word / 2 ^ v % 2 == 1

-- bit v of each word
abbrev pub lane : ℕ → List ℕ → List Bool
lane v words = map (word_bit v) words

-- word w of a column
abbrev pub word_of : ℕ → List ℕ → ℕ
word_of w column = slice_index_or column w 0

-- word w of each column
abbrev pub row_of : List (List ℕ) → ℕ → List ℕ
row_of columns w = map (word_of w) columns

-- The vector at bit v of word w: its bit i is bit v of word w of column i. It is number 64 * w + v of the vectors.
abbrev pub vector_at : Table → ℕ → ℕ → List Bool
vector_at table w v = lane v (row_of table.columns w)

-- a literal's word: its signal's word, with its sign
abbrev pub literal_word : List ℕ → Lit → ℕ
literal_word words literal = signed_word (word_of (signal_of literal) words) (is_negated literal)

-- the words so far, continued by one word for each gate
abbrev pub with_gate_words : List ℕ → List Gate → List ℕ
with_gate_words = with_values words

-- A table has a column for each output, and on the vectors of the first words the outputs' bits.
pub record AreEvaluated (net : Net) (inputs : Table) (done : ℕ) (outputs : Table) : Type 0 where
  pub table : IsTable outputs
  pub words : outputs.words ≡ inputs.words
  pub columns : length outputs.columns ≡ length net.outputs
  pub vectors : (w v : ℕ) → w < done → v < 64 → vector_at outputs w v ≡ function_of net (vector_at inputs w v)
