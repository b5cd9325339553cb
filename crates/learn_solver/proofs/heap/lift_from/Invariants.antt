-- The number that is moved has come to a place.
use Rattle.std.proofs.Common.{length}
use Rattle.learn_solver.proofs.HeapLemmas.{IsLifting}
use Rattle.learn_solver.proofs.heap.lift_from.Given as goal

abbrev pub invariant-loop-place : goal.invariant-loop-place
invariant-loop-place l = IsLifting (length l.keys) l.fn.place l.fn.places.items l.numbers.items l.places.items l.place

abbrev pub decreases-loop-place : goal.decreases-loop-place
decreases-loop-place l = l.place
