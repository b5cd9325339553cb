-- One reference more is by the new number.
use Rattle.std.proofs.Common.{◌≡◌, ◌<◌, ◌∙◌, All, Option, ℕ, length, slice_index_or, slice_set, ap, sym, subst, arith}
use Rattle.std.specs.Prelude.{option_to_list}
use Rattle.std.proofs.lemmas.List.Edits.{map_over_more}
use Rattle.std.specs.Option.{option_map}
use Rattle.refusal_core.specs.Numbered.{at}
use Rattle.refusal_core.proofs.MarkLemmas.{referred_below}
use Rattle.refusal_core.proofs.NumberedLemmas.{over_at}
use Rattle.refusal_core.proofs.renumbering.put_references.Goals as goal

pub referred-reference-requires : goal.referred-reference-requires
referred-reference-requires c =
    let old = c.args.list.now in
    let place = c.loop-place.place in
    let reference = c.index.result.now in
    let numbers = c.args.numbers.now in
    let below : place < length old = omega (arith, c.loop-place-test.true, c.len-place-end.ensures) in
    let was : reference ≡ slice_index_or old place reference = c.index.ensures ∙ over_at (option_map (at numbers)) old c.loop-place.list place reference below c.loop-place.invariant in
    subst (λ (r : Option ℕ). All (λ k. k < length numbers) (option_to_list r)) (sym was) (referred_below (λ k. k < length numbers) old place reference below c.requires)

pub loop-place-preserved : goal.loop-place-preserved
loop-place-preserved c =
    let old = c.args.list.now in
    let place = c.loop-place.place in
    let below : place < length old = omega (arith, c.loop-place-test.true, c.len-place-end.ensures) in
    c.set.ensures
    ∙ (ap (λ (r : Option ℕ). slice_set c.loop-place.list place r) c.referred-reference.ensures
    ∙ map_over_more (option_map (at c.args.numbers.now)) old c.loop-place.list place c.index.result.now below c.loop-place.invariant c.index.ensures)
