-- The search from the root is under way.
use Rattle.net_core.specs.Search.{IsUnderWay, left, positions}
use Rattle.net_core.proofs.levels.DepthFirstSearch.explore.Given as goal

abbrev pub invariant-loop-self : goal.invariant-loop-self
invariant-loop-self l = IsUnderWay l.net l.root l.self.visits.items l.self.stack.items

abbrev pub decreases-loop-self : goal.decreases-loop-self
decreases-loop-self l = left l.self.visits.items (positions l.self.stack.items)
