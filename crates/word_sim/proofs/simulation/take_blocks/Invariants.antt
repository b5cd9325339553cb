-- The rows have the words of the outputs so far, and the rows before them stay.
use Rattle.std.proofs.Common.{◌≡◌, ◌+◌, ◌<◌, ℕ, length, map, take}
use Rattle.word_sim.specs.Columns.{IsTable, literal_word, row_of}
use Rattle.word_sim.proofs.simulation.take_blocks.Given as goal

abbrev pub invariant-loop-k : goal.invariant-loop-k
invariant-loop-k l =
    ((j : ℕ) → j < 8 → take l.k (row_of l.table.columns (l.word + j)) ≡ map (literal_word (row_of l.values j)) (take l.k l.outputs))
    × ((w : ℕ) → w < l.word → row_of l.table.columns w ≡ row_of l.initial.table.columns w)
    × (l.table.words ≡ l.initial.table.words) × (length l.table.columns ≡ length l.initial.table.columns) × IsTable l.table
