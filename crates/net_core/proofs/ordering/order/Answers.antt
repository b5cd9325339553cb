-- The sorted positions are the order by levels, and its expansion computes the netlist.
use Rattle.std.proofs.Common.{arith}
use Rattle.circuits.proofs.GateCounts.{gates_in_order}
use Rattle.circuits.proofs.LevelOrders.{IsOrderOf-computes}
use Rattle.net_core.proofs.OrderLaws.{IsAcyclic-levels, IsLevelOrder-sorted}
use Rattle.net_core.proofs.ordering.order.Goals as goal

pub returns-then-gate_count-clause-too_many : goal.returns-then-gate_count-clause-too_many
returns-then-gate_count-clause-too_many c = λ _.
    (IsAcyclic-levels c.args.net.now c.in_ok-placed.placed.items c.in_ok-placed.ensures.levels, omega arith)

pub expand-requires-clause-order : goal.expand-requires-clause-order
expand-requires-clause-order c =
    rw c.deref.ensures.value (IsLevelOrder-sorted c.args.net.now c.in_ok-placed.placed.items c.in_ok-order.order.items c.in_ok-placed.ensures.levels c.in_ok-order.ensures)

pub expand-requires-clause-acyclic : goal.expand-requires-clause-acyclic
expand-requires-clause-acyclic c =
    IsAcyclic-levels c.args.net.now c.in_ok-placed.placed.items c.in_ok-placed.ensures.levels

pub returns-clause-computes : goal.returns-clause-computes
returns-clause-computes c =
    IsOrderOf-computes c.args.net.now c.in_ok-graph.graph (IsAcyclic-levels c.args.net.now c.in_ok-placed.placed.items c.in_ok-placed.ensures.levels) c.in_ok-graph.ensures.plain.closed c.in_ok-graph.ensures.graph

pub returns-clause-acyclic : goal.returns-clause-acyclic
returns-clause-acyclic c =
    IsAcyclic-levels c.args.net.now c.in_ok-placed.placed.items c.in_ok-placed.ensures.levels

pub returns-clause-few : goal.returns-clause-few
returns-clause-few c = omega (arith, gates_in_order c.args.net.now c.in_ok-graph.graph c.in_ok-graph.ensures.plain.closed c.in_ok-graph.ensures.graph)
