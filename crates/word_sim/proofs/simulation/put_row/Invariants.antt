-- The constant's word and the words of the columns so far stand at the front.
use Rattle.std.proofs.Common.{◌≡◌, ◌+◌, ◌∷◌, length, take}
use Rattle.word_sim.specs.Columns.{row_of}
use Rattle.word_sim.proofs.simulation.put_row.Given as goal

abbrev pub invariant-loop-column : goal.invariant-loop-column
invariant-loop-column l =
    (take (l.column + 1) l.values ≡ 0 ∷ take l.column (row_of l.inputs.columns l.word)) × (length l.values ≡ length l.fn.values)
