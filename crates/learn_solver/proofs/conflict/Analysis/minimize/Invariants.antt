use Rattle.learn_solver.proofs.MinimizeLemmas.{IsMinimizing}
use Rattle.learn_solver.proofs.conflict.Analysis.minimize.Given as goal

abbrev pub invariant-loop-place : goal.invariant-loop-place
invariant-loop-place l = IsMinimizing l.clauses.clauses l.trail l.marked l.self l.place l.fn.self.below

abbrev pub decreases-loop-place : goal.decreases-loop-place
decreases-loop-place l = l.place
