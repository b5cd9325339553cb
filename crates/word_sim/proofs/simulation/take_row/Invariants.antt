-- The row has the words of the outputs so far, and the other rows stay.
use Rattle.std.proofs.Common.{◌≡◌, ◌<◌, ℕ, length, map, take}
use Rattle.word_sim.specs.Columns.{IsTable, literal_word, row_of}
use Rattle.word_sim.proofs.simulation.take_row.Given as goal

abbrev pub invariant-loop-k : goal.invariant-loop-k
invariant-loop-k l =
    (take l.k (row_of l.table.columns l.word) ≡ map (literal_word l.values) (take l.k l.outputs))
    × ((w : ℕ) → w < l.word → row_of l.table.columns w ≡ row_of l.initial.table.columns w)
    × (l.table.words ≡ l.initial.table.words) × (length l.table.columns ≡ length l.initial.table.columns) × IsTable l.table
