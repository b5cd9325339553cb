-- In each row the constant's word and the words of the columns so far stand at the front.
use Rattle.std.proofs.Common.{◌≡◌, ◌+◌, ◌∷◌, ◌<◌, ℕ, length, take}
use Rattle.word_sim.specs.Columns.{row_of}
use Rattle.word_sim.proofs.simulation.put_blocks.Given as goal

abbrev pub invariant-loop-column : goal.invariant-loop-column
invariant-loop-column l =
    ((k : ℕ) → k < 8 → take (l.column + 1) (row_of l.values k) ≡ 0 ∷ take l.column (row_of l.inputs.columns (l.word + k)))
    × (length l.values ≡ length l.fn.values)
