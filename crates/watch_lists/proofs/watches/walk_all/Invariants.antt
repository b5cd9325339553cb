use Rattle.std.proofs.Common.{◌-◌}
use Rattle.watch_lists.proofs.PassLemmas.{IsUnderWay}
use Rattle.watch_lists.proofs.watches.walk_all.Given as goal

abbrev pub invariant-loop-trail : goal.invariant-loop-trail
invariant-loop-trail l = IsUnderWay l.clauses.clauses l.fn.lists.watches.items l.lists.watches.items l.lists.store l.fn.trail l.trail

abbrev pub decreases-loop-trail : goal.decreases-loop-trail
decreases-loop-trail l = l.trail.variables - l.trail.walked
