use Rattle.std.proofs.Common.{◌≡◌, length}
use Rattle.sweep.proofs.drawing.draw_column.Given as goal

abbrev pub invariant-loop-word : goal.invariant-loop-word
invariant-loop-word l = (length l.table.columns ≡ length l.initial.table.columns) × (l.table.words ≡ l.initial.table.words)
