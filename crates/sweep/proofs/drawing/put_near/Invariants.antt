use Rattle.std.proofs.Common.{◌≡◌, length}
use Rattle.sweep.proofs.drawing.put_near.Given as goal

abbrev pub invariant-loop-input : goal.invariant-loop-input
invariant-loop-input l = (length l.table.columns ≡ length l.initial.table.columns) × (l.table.words ≡ l.initial.table.words)
