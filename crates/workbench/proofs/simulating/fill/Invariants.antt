-- The table keeps its size.
use Rattle.std.proofs.Common.{◌≡◌, length}
use Rattle.word_sim.specs.Columns.{IsTable}
use Rattle.workbench.proofs.simulating.fill.Given as goal

abbrev pub invariant-loop-column : goal.invariant-loop-column
invariant-loop-column l =
    IsTable l.table × (l.table.words ≡ l.initial.table.words) × (length l.table.columns ≡ length l.initial.table.columns)
