-- The table keeps its size.
use Rattle.std.proofs.Common.{◌≡◌, length}
use Rattle.word_sim.specs.Columns.{IsTable}
use Rattle.workbench.proofs.simulating.fill_column.Given as goal

abbrev pub invariant-loop-word : goal.invariant-loop-word
invariant-loop-word l =
    IsTable l.table × (l.table.words ≡ l.initial.table.words) × (length l.table.columns ≡ length l.initial.table.columns)
