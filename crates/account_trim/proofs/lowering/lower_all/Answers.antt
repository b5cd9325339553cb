-- One number more is the lower one.
use Rattle.std.proofs.Common.{◌<◌, ◌∙◌, length, slice_set, ap, arith}
use Rattle.std.proofs.lemmas.List.Edits.{map_over_more}
use Rattle.account_trim.specs.Lowered.{lowered}
use Rattle.account_trim.proofs.lowering.lower_all.Goals as goal

pub loop-place-preserved : goal.loop-place-preserved
loop-place-preserved c =
    let old = c.args.numbers.now in
    let place = c.loop-place.place in
    let below : place < length old = omega (arith, c.loop-place-test.true, c.len-place-end.ensures) in
    c.set.ensures
    ∙ (ap (λ n. slice_set c.loop-place.numbers place n) c.lowered-number.ensures
    ∙ map_over_more (lowered c.args.counts.now) old c.loop-place.numbers place c.index.result.now below c.loop-place.invariant c.index.ensures)
