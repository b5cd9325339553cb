-- There is room for each definition, since there is room for all.
use Rattle.std.proofs.Common.{◌≡◌, ◌+◌, length, get_or, ap, arith}
use Rattle.std.proofs.lemmas.List.{get_or_default}
use Rattle.circuits.specs.Circuits.{signals_in}
use Rattle.circuits.specs.Expansion.{with_defs, no_gates}
use Rattle.net_core.proofs.ExpandLaws.{making_of, making-start, own-entries, take_room}
use Rattle.net_core.proofs.expanding.take_all.Goals as goal

pub loop-position-init : goal.loop-position-init
loop-position-init c =
    let signals = c.inputs-first.result + 1 + length c.defs.result.now in
    let same : signals ≡ signals_in c.args.net.now = omega (arith, c.inputs-first.ensures.value, ap length c.defs.ensures.value) in
    record {
      made = making-start c.args.net.now c.in_ok-own_literals.field-0.items c.new.result.items c.args.order.now signals c.new.ensures.items c.in_ok-own_literals.ensures same;
      first = omega (arith, c.inputs-first.ensures.value);
      entries = omega (arith, own-entries c.in_ok-own_literals.field-0.items signals c.in_ok-own_literals.ensures, same, c.in_ok-own_literals.field-0.ok.0);
    }

pub take-requires-clause-room : goal.take-requires-clause-room
take-requires-clause-room c =
    let so_far = making_of c.loop-position.expansion.gates.list.items c.loop-position.expansion.literals.items in
    let whole = with_defs c.args.net.now (no_gates c.args.net.now) c.args.order.now in
    rw c.loop-position.invariant.first (take_room c.args.net.now (1 + c.args.net.now.inputs) so_far whole c.args.order.now c.loop-position.position-index (get_or c.args.order.now c.loop-position.position-index 0) c.loop-position-test.true (get_or_default c.args.order.now c.loop-position.position-index 0 (get_or c.args.order.now c.loop-position.position-index 0) c.loop-position-test.true) c.loop-position.invariant.made c.requires.room)
