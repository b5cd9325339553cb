use Rattle.std.proofs.Common.{length}
use Rattle.learn_solver.specs.Orders.{IsOrder}
use Rattle.learn_solver.proofs.order.Order.name_all.Given as goal

abbrev pub invariant-loop-literal : goal.invariant-loop-literal
invariant-loop-literal l = IsOrder (length l.fn.self.heap) l.self
