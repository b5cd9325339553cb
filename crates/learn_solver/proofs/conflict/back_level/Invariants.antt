use Rattle.learn_solver.proofs.BackLevelLemmas.{IsPassed}
use Rattle.learn_solver.proofs.conflict.back_level.Given as goal

abbrev pub invariant-loop-place : goal.invariant-loop-place
invariant-loop-place l = IsPassed l.trail l.marked l.below l.place

abbrev pub decreases-loop-place : goal.decreases-loop-place
decreases-loop-place l = l.place
