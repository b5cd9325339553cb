use Rattle.learn_solver.proofs.OrderLemmas.{IsReleasing}
use Rattle.learn_solver.proofs.search.release_above.Given as goal

abbrev pub invariant-loop-place : goal.invariant-loop-place
invariant-loop-place l = IsReleasing l.trail l.order l.place

abbrev pub decreases-loop-place : goal.decreases-loop-place
decreases-loop-place l = l.place
