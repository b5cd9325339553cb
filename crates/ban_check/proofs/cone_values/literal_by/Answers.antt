-- The literal's signal has its value.
use Rattle.std.proofs.Common.{◌≡◌, ◌∙◌, length, take, arith}
use Rattle.std.proofs.lemmas.List.{length-take}
use Rattle.ban_check.proofs.ConeLemmas.{cone_literal}
use Rattle.ban_check.proofs.cone_values.literal_by.Goals as goal

pub returns : goal.returns
returns g c =
    let first = c.args.first in
    let values = c.args.values.now in
    let size : length (take first values) ≡ first = omega (arith, c.requires.room, length-take first values) in
    c.literal_value.ensures ∙ cone_literal g.V.SignalValue.operations first c.args.gates.now c.args.cone.now (take first values) c.requires.order c.requires.cone size c.eval_cone.new.values c.args.literal c.eval_cone.ensures c.requires.within
