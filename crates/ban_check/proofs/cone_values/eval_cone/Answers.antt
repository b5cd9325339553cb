-- One gate more of the cone has its value.
use Rattle.std.proofs.Common.{◌≡◌, length, take, sym, arith}
use Rattle.std.proofs.lemmas.List.{get_or-take, get_or_default, length-take}
use Rattle.ban_check.proofs.ConeLemmas.{cone_next, cone_none}
use Rattle.ban_check.proofs.cone_values.eval_cone.Goals as goal

pub loop-gate-init : goal.loop-gate-init
loop-gate-init g c =
    let first = c.args.first in
    let values = c.args.values.now in
    let size : length (take first values) ≡ first = omega (arith, c.requires.room, length-take first values) in
    cone_none g.V.SignalValue.operations first c.args.gates.now c.args.cone.now (take first values) c.requires.order c.requires.cone size values (sym c.requires.room) (λ s early. sym (get_or-take first values s _ early))

pub loop-gate-preserved : goal.loop-gate-preserved
loop-gate-preserved g c =
    let first = c.args.first in
    let values = c.args.values.now in
    let size : length (take first values) ≡ first = omega (arith, c.requires.room, length-take first values) in
    let k = c.loop-gate.gate-index in
    cone_next g.V.SignalValue.operations first c.args.gates.now c.args.cone.now (take first values) c.requires.order c.requires.cone size c.loop-gate.values c.eval_one.new.values k _ c.loop-gate-test.true (get_or_default c.args.cone.now k _ 0 c.loop-gate-test.true) c.eval_one.ensures c.loop-gate.invariant
