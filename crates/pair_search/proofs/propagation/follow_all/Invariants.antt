use Rattle.std.proofs.Common.{◌-◌, ◌^◌}
use Rattle.pair_search.specs.Progress.{Propagates}
use Rattle.pair_search.proofs.propagation.follow_all.Given as goal

abbrev pub invariant-loop-queue : goal.invariant-loop-queue
invariant-loop-queue l = Propagates l.bans l.fn.domains l.domains

abbrev pub decreases-loop-queue : goal.decreases-loop-queue
decreases-loop-queue l = 2 ^ 64 - l.queue.head
