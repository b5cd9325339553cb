-- Signals on 512 vectors, and on these with an input inverted.
use Rattle.std.specs.Prelude.{◌≡◌, ◌≢◌, ◌⊎◌, ℕ, ◌+◌, ◌<◌, ◌&&◌, Bool, true, false, not, List, [], length, slice_index_or, if◌then◌else◌}
use Rattle.circuits.specs.declared.netlist.Gate.{Gate}
use Rattle.circuits.specs.declared.netlist.Lit.{Lit}
use Rattle.circuits.specs.Literals.{bit, differ, is_negated, signal_of}
use Rattle.circuits.specs.Netlists.{Net, signals_of, valuation_of}
use Rattle.word_sim.specs.Columns.{word_bit, word_of, row_of, lane}

-- bit v of word w of a block
abbrev pub block_bit : ℕ → ℕ → List ℕ → Bool
block_bit w v block = word_bit v (word_of w block)

-- the vector at bit v of word w of a block for each input
abbrev pub pattern : List (List ℕ) → ℕ → ℕ → List Bool
pattern blocks w v = lane v (row_of blocks w)

-- a signal's block after a change: another one where the signal is marked
abbrev pub block_after : List (List ℕ) → List (List ℕ) → List Bool → ℕ → List ℕ
block_after before after marks s = if bit marks s then slice_index_or after s [] else slice_index_or before s []

-- a literal's bit where signals have these bits
abbrev pub bit_of_literal : (ℕ → Bool) → Lit → Bool
bit_of_literal bits literal = differ (bits (signal_of literal)) (is_negated literal)

-- a gate's bit where signals have these bits
abbrev pub bit_of_gate : (ℕ → Bool) → Gate → Bool
bit_of_gate bits gate = bit_of_literal bits gate.a && bit_of_literal bits gate.b

-- A gate has the AND of what its literals have after a change; or both of its operands have what they had before, and
-- it too.
abbrev pub IsRunOrKept : Gate → ℕ → List (List ℕ) → List (List ℕ) → List (List ℕ) → List Bool → List Bool → Type 0
IsRunOrKept gate place before old_after after old_marks marks =
    ((w v : ℕ) → w < 8 → v < 64 → block_bit w v (block_after before after marks place)
    ≡ bit_of_gate (λ s. block_bit w v (block_after before old_after old_marks s)) gate)
    ⊎ ((block_after before after marks place ≡ slice_index_or before place [])
    × (block_after before old_after old_marks (signal_of gate.a) ≡ slice_index_or before (signal_of gate.a) [])
    × (block_after before old_after old_marks (signal_of gate.b) ≡ slice_index_or before (signal_of gate.b) []))

-- Of the constant and the inputs one input is marked, and what it has after the change is inverted.
pub record IsFlipped (input : ℕ) (inputs after : List (List ℕ)) (marks : List Bool) : Type 0 where
  pub marked : bit marks (1 + input) ≡ true
  pub others : (s : ℕ) → s < 1 + length inputs → s ≢ 1 + input → bit marks s ≡ false
  pub bits : (w v : ℕ) → w < 8 → v < 64
      → block_bit w v (slice_index_or after (1 + input) []) ≡ not (block_bit w v (slice_index_or inputs input []))

-- the signals below a place have their bits on a vector
abbrev pub IsEvaluated : Net → List Bool → ℕ → (ℕ → Bool) → Type 0
IsEvaluated net x end bits = (s : ℕ) → s < end → bits s ≡ bit (valuation_of net x) s

-- all signals do
abbrev pub IsValuation : Net → List Bool → (ℕ → Bool) → Type 0
IsValuation net x bits = IsEvaluated net x (signals_of net) bits

-- each signal has its block on the vectors
abbrev pub AreSimulated : Net → List (List ℕ) → List (List ℕ) → Type 0
AreSimulated net inputs blocks = (w v : ℕ) → w < 8 → v < 64
    → IsValuation net (pattern inputs w v) (λ s. block_bit w v (slice_index_or blocks s []))
