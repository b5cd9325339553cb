-- What was made in the order by level is the ordered netlist, and small enough.
use Rattle.std.proofs.Common.{◌≡◌, ◌∙◌, ap, ap₂, map, length, arith}
use Rattle.circuits.specs.Circuits.{signals_in}
use Rattle.circuits.specs.Expansion.{Making, stands_for}
use Rattle.circuits.proofs.GateCounts.{length-all_made}
use Rattle.circuits.proofs.LevelOrders.{IsLevelOrder-in_range}
use Rattle.net_core.proofs.ExpandLaws.{net_of, making-entries, IsOrderOf-parts, IsGraph-in_order}
use Rattle.net_core.proofs.expanding.expand.Goals as goal

pub take_all-requires-clause-there : goal.take_all-requires-clause-there
take_all-requires-clause-there c =
    IsLevelOrder-in_range c.args.net.now c.args.order.now c.requires.order

pub take_all-requires-clause-room : goal.take_all-requires-clause-room
take_all-requires-clause-room c =
    omega (arith, length-all_made c.args.net.now c.args.order.now c.inputs-inputs.ensures.net.closed c.requires.order, c.requires.few, c.inputs-inputs.ensures.net.signals)

pub stand_ins-requires : goal.stand_ins-requires
stand_ins-requires c =
    let entries : length c.deref.result.now ≡ signals_in c.args.net.now = ap length c.deref.ensures.value ∙ (ap (λ (m : Making). length m.literals) c.in_ok-gates.ensures ∙ making-entries c.args.net.now c.args.order.now) in
    rw (c.outputs.ensures.value, entries) c.outputs.ensures.net.closed.outputs

pub in_order-requires : goal.in_order-requires
in_order-requires c =
    let parts = IsOrderOf-parts c.args.net.now c.args.order.now c.inputs-inputs.result c.in_ok-gates.field-0.gates.list.items c.in_ok-gates.field-0.literals.items c.in_ok-outputs.outputs.items c.requires.order c.inputs-inputs.ensures.value c.in_ok-gates.ensures (c.in_ok-outputs.ensures ∙ ap₂ (λ ls os. map (stands_for ls) os) c.deref.ensures.value c.outputs.ensures.value) in
    record { graph = IsGraph-in_order c.args.net.now (net_of c.inputs-inputs.result c.in_ok-gates.field-0.gates.list.items c.in_ok-outputs.outputs.items) c.inputs-inputs.ensures.net c.requires.acyclic c.requires.few parts }
