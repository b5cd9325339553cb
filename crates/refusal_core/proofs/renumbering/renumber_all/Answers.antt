-- One step more has its new numbers.
use Rattle.std.proofs.Common.{◌<◌, ◌∙◌, length, slice_set, ap, arith}
use Rattle.std.proofs.lemmas.List.Edits.{map_over_more}
use Rattle.account_core.specs.declared.step.Ban.{Ban}
use Rattle.account_core.specs.declared.step.Step.{Step}
use Rattle.refusal_core.specs.Numbered.{numbered_ban}
use Rattle.refusal_core.proofs.renumbering.renumber_all.Goals as goal

pub loop-place-preserved : goal.loop-place-preserved
loop-place-preserved c =
    let old = c.args.bans.now in
    let place = c.loop-place.place in
    let ban = c.index_mut.result.now in
    let numbers = c.args.numbers.now in
    let below : place < length old.items = omega (arith, c.loop-place-test.true, c.len-place-end.ensures, old.ok.0) in
    let one : Step → Ban = λ step. record { pairs = ban.pairs; step = step } in
    ap (λ step. slice_set c.loop-place.bans.items place (one step)) c.renumber.ensures
    ∙ map_over_more (numbered_ban numbers.facts numbers.bans) old.items c.loop-place.bans.items place ban below c.loop-place.invariant c.index_mut.ensures.value
