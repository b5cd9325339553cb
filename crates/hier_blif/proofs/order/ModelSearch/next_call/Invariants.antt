use Rattle.hier_blif.specs.Order.{AreLooked}
use Rattle.hier_blif.proofs.order.ModelSearch.next_call.Given as goal

abbrev pub invariant-loop-line : goal.invariant-loop-line
invariant-loop-line l = AreLooked l.scope.models.now l.self.order.items l.place l.line
