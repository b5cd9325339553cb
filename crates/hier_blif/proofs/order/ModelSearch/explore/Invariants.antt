use Rattle.hier_blif.specs.Order.{place_of, left, IsUnderWay, Grows}
use Rattle.hier_blif.proofs.order.ModelSearch.explore.Given as goal

abbrev pub invariant-loop-self : goal.invariant-loop-self
invariant-loop-self l =
    IsUnderWay l.scope.models.now (place_of l.scope.models.now l.line) l.self × Grows l.fn.self.order.items l.self.order.items

abbrev pub decreases-loop-self : goal.decreases-loop-self
decreases-loop-self l = left l.self.visits.items l.self.stack.items
