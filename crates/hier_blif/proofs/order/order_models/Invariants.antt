use Rattle.hier_blif.proofs.OrderLemmas.{AreListed}
use Rattle.hier_blif.proofs.order.order_models.Given as goal

abbrev pub invariant-loop-place : goal.invariant-loop-place
invariant-loop-place l = AreListed l.scope.models.now l.place l.search
