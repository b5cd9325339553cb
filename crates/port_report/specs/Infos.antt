-- The report of a circuit's functions: which inputs each output depends on, how, and which pairs of them are alike
-- (this project's own text).
use Rattle.std.specs.Prelude.{ℕ, ◌+◌, ◌<◌, List, [], ◌∷◌, ◌++◌, length, codes, All}
use Rattle.std.specs.Fmt.{decimal}
use Rattle.net_file.specs.declared.named.Named.{Named}
use Rattle.claim_core.specs.declared.info.OutputInfo.{OutputInfo}
use Rattle.claim_core.specs.declared.info.Unate.{Unate}
use Rattle.claim_core.specs.declared.info.Unate.TheVariants.{Positive, Negative, Binate}
use Rattle.claim_core.specs.declared.info.Sym.{Sym}
use Rattle.claim_core.specs.declared.info.Sym.TheVariants.{Symmetric, Skew, Both}
use Rattle.port_report.specs.Reports.{PortNames, names_of, port_among}

-- the word for an output that never falls, never rises, or may do either, where the input rises
abbrev pub unate_word : Unate → List ℕ
unate_word Positive = codes "positive"
unate_word Negative = codes "negative"
unate_word Binate = codes "binate"

-- the word for two inputs that may be exchanged as they are, with both inverted, or either way
abbrev pub sym_word : Sym → List ℕ
sym_word Symmetric = codes "symmetric"
sym_word Skew = codes "skew"
sym_word Both = codes "both"

-- `inputs 2`, on a line of its own
abbrev pub count_line : List ℕ → ℕ → List ℕ
count_line word count = word ++ 32 ∷ decimal count ++ 10 ∷ []

-- `input 0 a positive`, on a line of its own
abbrev pub input_line : List (List ℕ) → ℕ × Unate → List ℕ
input_line names entry = port_among (codes "input") names entry.0 ++ 32 ∷ unate_word entry.1 ++ 10 ∷ []

-- a line for each input that an output depends on
abbrev pub input_lines : List (List ℕ) → List (ℕ × Unate) → List ℕ
input_lines names [] = []
input_lines names (entry ∷ entries) = input_line names entry ++ input_lines names entries

-- `pair 0 1 both`, on a line of its own
abbrev pub pair_line : ℕ × ℕ × Sym → List ℕ
pair_line pair = codes "pair " ++ decimal pair.0 ++ 32 ∷ decimal pair.1 ++ 32 ∷ sym_word pair.2 ++ 10 ∷ []

-- a line for each two inputs that may be exchanged
abbrev pub pair_lines : List (ℕ × ℕ × Sym) → List ℕ
pair_lines [] = []
pair_lines (pair ∷ pairs) = pair_line pair ++ pair_lines pairs

-- `output 0 y support 2`, on a line of its own
abbrev pub output_line : List (List ℕ) → ℕ → ℕ → List ℕ
output_line names port support = port_among (codes "output") names port ++ codes " support " ++ decimal support ++ 10 ∷ []

-- an output's line, then a line for each input of its support, then one for each pair
abbrev pub output_text : PortNames → ℕ → OutputInfo → List ℕ
output_text names port row = output_line names.outputs port (length row.support) ++ input_lines names.inputs row.support ++ pair_lines row.pairs

-- the outputs from `port` on
abbrev pub output_texts : PortNames → ℕ → List OutputInfo → List ℕ
output_texts names port [] = []
output_texts names port (row ∷ rows) = output_text names port row ++ output_texts names (port + 1) rows

-- the numbers of inputs, outputs and gates, each on a line, then each output
abbrev pub info_text : Named → List OutputInfo → List ℕ
info_text named rows =
    count_line (codes "inputs") named.graph.inputs
    ++ count_line (codes "outputs") (length named.graph.outputs)
    ++ count_line (codes "gates") (length named.graph.gates)
    ++ output_texts (names_of named) 0 rows

-- the row's inputs are inputs of the circuit
abbrev pub IsInRange : ℕ → OutputInfo → Type 0
IsInRange inputs row = All (λ entry. entry.0 < inputs) row.support
