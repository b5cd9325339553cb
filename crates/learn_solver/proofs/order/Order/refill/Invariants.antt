use Rattle.std.proofs.Common.{length}
use Rattle.learn_solver.specs.Orders.{IsOrder}
use Rattle.learn_solver.proofs.order.Order.refill.Given as goal

abbrev pub invariant-loop-variable : goal.invariant-loop-variable
invariant-loop-variable l = IsOrder (length l.fn.self.heap) l.self
