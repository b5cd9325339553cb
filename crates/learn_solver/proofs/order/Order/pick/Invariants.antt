use Rattle.learn_solver.specs.Orders.{IsOrder}
use Rattle.learn_solver.proofs.OrderLemmas.{how_many}
use Rattle.learn_solver.proofs.order.Order.pick.Given as goal

abbrev pub invariant-loop-variable : goal.invariant-loop-variable
invariant-loop-variable l = IsOrder l.trail.variables l.self

abbrev pub decreases-loop-variable : goal.decreases-loop-variable
decreases-loop-variable l = how_many l.self.heap
