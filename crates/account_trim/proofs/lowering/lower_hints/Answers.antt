-- One hint more is the lower one.
use Rattle.std.proofs.Common.{◌<◌, ◌∙◌, length, slice_set, ap, arith}
use Rattle.std.proofs.lemmas.List.Edits.{map_over_more}
use Rattle.account_trim.specs.Lowered.{lowered_hint}
use Rattle.account_trim.proofs.lowering.lower_hints.Goals as goal

pub loop-place-preserved : goal.loop-place-preserved
loop-place-preserved c =
    let old = c.args.hints.now in
    let place = c.loop-place.place in
    let below : place < length old = omega (arith, c.loop-place-test.true, c.len-place-end.ensures) in
    c.set.ensures
    ∙ (ap (λ n. slice_set c.loop-place.hints place n) c.lowered_hint-hint.ensures
    ∙ map_over_more (lowered_hint c.args.counts.now c.args.link.now) old c.loop-place.hints place c.index.result.now below c.loop-place.invariant c.index.ensures)
