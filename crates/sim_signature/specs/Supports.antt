-- Which inputs an output reaches through gates (structural support, as in textbooks of logic synthesis).
use Rattle.std.specs.Prelude.{◌≡◌, ℕ, ◌+◌, ◌*◌, ◌<◌, ◌≤◌, ◌==◌, Bool, false, List, ◌∷◌, length, map, filter, slice_index_or}
use Rattle.std.specs.List.{range_with_len}
use Rattle.circuits.specs.Literals.{EachAt, bit}
use Rattle.circuits.specs.Netlists.{Net}
use Rattle.net_core.specs.Cones.{output_signal}
use Rattle.claim_core.specs.Formulas.{reaching}
use Rattle.word_sim.specs.Columns.{word_bit}

-- one of n inputs
abbrev pub only_input : ℕ → ℕ → List Bool
only_input n i = map (λ k. k == i) (range_with_len 0 n)

-- whether each signal reaches an input: the constant doesn't, and a gate reaches what one of its operands reaches
abbrev pub reaches_input : Net → ℕ → List Bool
reaches_input net i = reaching (false ∷ only_input net.inputs i) net.gates

-- whether output k reaches input i
abbrev pub output_reaches : Net → ℕ → ℕ → Bool
output_reaches net k i = bit (reaches_input net i) (output_signal net k)

-- The bits of 64 inputs from number `first` on: a word for each output.
pub record IsBlock (net : Net) (first : ℕ) (words : List ℕ) : Type 0 where
  pub outputs : length words ≡ length net.outputs
  pub bits : (k v d : ℕ) → k < length net.outputs
      → v < 64
      → word_bit v (slice_index_or words k d) ≡ output_reaches net k (first + v)

-- The bits of all inputs, 64 a block.
pub record AreBlocks (net : Net) (blocks : List (List ℕ)) : Type 0 where
  pub all : net.inputs ≤ 64 * length blocks
  pub each : EachAt (λ b words. IsBlock net (64 * b) words) blocks

-- the inputs that output k reaches, ascending
abbrev pub inputs_reached : Net → ℕ → List ℕ
inputs_reached net k = filter (output_reaches net k) (range_with_len 0 net.inputs)
