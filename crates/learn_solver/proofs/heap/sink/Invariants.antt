-- The first number has come to a place.
use Rattle.std.proofs.Common.{◌-◌, length}
use Rattle.learn_solver.proofs.HeapLemmas.{IsSinking}
use Rattle.learn_solver.proofs.heap.sink.Given as goal

abbrev pub invariant-loop-place : goal.invariant-loop-place
invariant-loop-place l = IsSinking (length l.keys) l.queued l.fn.places.items l.numbers.items l.places.items

abbrev pub decreases-loop-place : goal.decreases-loop-place
decreases-loop-place l = l.queued - l.place
