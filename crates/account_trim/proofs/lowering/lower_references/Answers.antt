-- One reference more is by the lower number.
use Rattle.std.proofs.Common.{◌<◌, ◌∙◌, Option, ℕ, length, slice_set, ap, arith}
use Rattle.std.specs.Option.{option_map}
use Rattle.std.proofs.lemmas.List.Edits.{map_over_more}
use Rattle.account_trim.specs.Lowered.{lowered}
use Rattle.account_trim.proofs.lowering.lower_references.Goals as goal

pub loop-place-preserved : goal.loop-place-preserved
loop-place-preserved c =
    let old = c.args.references.now in
    let place = c.loop-place.place in
    let below : place < length old = omega (arith, c.loop-place-test.true, c.len-place-end.ensures) in
    c.set.ensures
    ∙ (ap (λ (r : Option ℕ). slice_set c.loop-place.references place r) c.lowered_reference-reference.ensures
    ∙ map_over_more (option_map (lowered c.args.counts.now)) old c.loop-place.references place c.index.result.now below c.loop-place.invariant c.index.ensures)
