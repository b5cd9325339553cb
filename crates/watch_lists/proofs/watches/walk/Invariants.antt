use Rattle.watch_lists.proofs.PassLemmas.{IsOnTheWay}
use Rattle.watch_lists.proofs.watches.walk.Given as goal

abbrev pub invariant-loop-left : goal.invariant-loop-left
invariant-loop-left l = IsOnTheWay l.clauses.clauses l.fn.lists.watches.items l.lists.watches.items l.lists.store l.fn.trail l.trail l.literal l.left

abbrev pub decreases-loop-left : goal.decreases-loop-left
decreases-loop-left l = l.left
