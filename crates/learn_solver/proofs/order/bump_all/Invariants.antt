use Rattle.std.proofs.Common.{length}
use Rattle.learn_solver.specs.Orders.{IsOrder}
use Rattle.learn_solver.proofs.order.bump_all.Given as goal

abbrev pub invariant-loop-step : goal.invariant-loop-step
invariant-loop-step l = IsOrder (length l.fn.order.heap) l.order
