use Rattle.learn_solver.proofs.ClearLemmas.{IsClearing}
use Rattle.learn_solver.proofs.conflict.clear.Given as goal

abbrev pub invariant-loop-place : goal.invariant-loop-place
invariant-loop-place l = IsClearing l.trail l.marked l.place
