use Rattle.std.proofs.Common.{◌≡◌, map}
use Rattle.cnf_core.specs.Clauses.{opposite}
use Rattle.learn_solver.specs.Analyses.{kept_literals}
use Rattle.learn_solver.proofs.conflict.negated.Given as goal

abbrev pub invariant-loop-place : goal.invariant-loop-place
invariant-loop-place l = l.clause ≡ map opposite (kept_literals l.trail.entries l.marked l.place)
