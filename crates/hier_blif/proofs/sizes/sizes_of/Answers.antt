use Rattle.std.proofs.Common.{◌≡◌, All, length, get_or, take, ap, sym, subst, ◌∙◌, arith}
use Rattle.std.proofs.lemmas.List.{get_or_default, length-set}
use Rattle.hier_blif.specs.Order.{callees}
use Rattle.hier_blif.specs.Sizes.{IsSizeAt}
use Rattle.hier_blif.proofs.SizeLemmas.{step_callees, callees_below, callees_sized, counted_at, sized_more, all_sized}
use Rattle.hier_blif.proofs.sizes.sizes_of.Goals as goal

pub size_of-requires-clause-there : goal.size_of-requires-clause-there
size_of-requires-clause-there c =
    let models = c.args.scope.now.models.now in
    let order = c.args.order.now in
    let k = c.loop-place.place-index in
    let lines = c.deref.result.now in
    let place = get_or order k 0 in
    let model = get_or models place c.index-scope-place.result in
    let there = c.requires.order.listing.there k 0 c.loop-place-test.true in
    let at : model ≡ get_or models place model = get_or_default models place c.index-scope-place.result model there in
    let held = step_callees models order k model lines c.requires.order.listing c.loop-place-test.true at c.deref.ensures.value in
    let same = ap length c.deref-in-loop-place.ensures.value ∙ c.loop-place.invariant.0 in
    callees_below models order k (callees models lines) _ same c.requires.order.listing held

pub size_of-requires-clause-sizes : goal.size_of-requires-clause-sizes
size_of-requires-clause-sizes c =
    let models = c.args.scope.now.models.now in
    let order = c.args.order.now in
    let k = c.loop-place.place-index in
    let lines = c.deref.result.now in
    let place = get_or order k 0 in
    let model = get_or models place c.index-scope-place.result in
    let there = c.requires.order.listing.there k 0 c.loop-place-test.true in
    let at : model ≡ get_or models place model = get_or_default models place c.index-scope-place.result model there in
    let held = step_callees models order k model lines c.requires.order.listing c.loop-place-test.true at c.deref.ensures.value in
    subst (λ sizes. All (IsSizeAt models sizes) (callees models lines)) (sym c.deref-in-loop-place.ensures.value) (callees_sized models c.loop-place.sizes.items (take k order) (callees models lines) c.loop-place.invariant.1 held)

pub loop-place-preserved : goal.loop-place-preserved
loop-place-preserved c =
    let models = c.args.scope.now.models.now in
    let order = c.args.order.now in
    let k = c.loop-place.place-index in
    let place = get_or order k 0 in
    let sizes = c.loop-place.sizes.items in
    let there = c.requires.order.listing.there k 0 c.loop-place-test.true in
    let model = get_or models place c.index-scope-place.result in
    let at : model ≡ get_or models place model = get_or_default models place c.index-scope-place.result model there in
    let here = counted_at models place model c.deref.result.now c.size_of.result there at c.deref.ensures.value c.size_of.ensures in
    (length-set sizes place c.size_of.result ∙ c.loop-place.invariant.0, sized_more models order k place sizes c.size_of.result c.loop-place-test.true (get_or_default order k 0 place c.loop-place-test.true) (omega (arith, there, c.loop-place.invariant.0)) here c.loop-place.invariant.1)

pub returns : goal.returns
returns c =
    all_sized c.args.scope.now.models.now c.loop-place.sizes.items c.args.order.now c.loop-place.place-index c.loop-place-test.false c.loop-place.invariant.0 c.requires.order.whole c.loop-place.invariant.1
