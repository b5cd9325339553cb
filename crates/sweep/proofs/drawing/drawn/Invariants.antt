use Rattle.std.proofs.Common.{◌≡◌, length}
use Rattle.sweep.proofs.drawing.drawn.Given as goal

abbrev pub invariant-loop-input : goal.invariant-loop-input
invariant-loop-input l = length l.table.columns ≡ l.inputs
