use Rattle.std.proofs.Common.{◌≡◌, ◌+◌, All, length, get_or, take, refl, ap, sym, subst, ◌∙◌, arith}
use Rattle.std.proofs.lemmas.List.{get_or_default, length-set}
use Rattle.hier_blif.specs.Order.{callees}
use Rattle.hier_blif.specs.Drivers.{IsDrivenAt}
use Rattle.hier_blif.proofs.SizeLemmas.{step_callees, callees_below}
use Rattle.hier_blif.proofs.DriverLemmas.{callees_driven, driven_at, driven_more, all_driven}
use Rattle.hier_blif.proofs.drivers.drivers_of.Goals as goal

pub drivers_in-requires-clause-there : goal.drivers_in-requires-clause-there
drivers_in-requires-clause-there c =
    let models = c.args.scope.now.models.now in
    let order = c.args.order.now in
    let k = c.loop-place.place-index in
    let place = get_or order k 0 in
    let model = get_or models place c.index-scope-place.result in
    let there = c.requires.order.listing.there k 0 c.loop-place-test.true in
    let at : model ≡ get_or models place model = get_or_default models place c.index-scope-place.result model there in
    let held = step_callees models order k model model.lines c.requires.order.listing c.loop-place-test.true at refl in
    let same = ap length c.deref.ensures.value ∙ c.loop-place.invariant.0 in
    callees_below models order k (callees models model.lines) _ same c.requires.order.listing held

pub drivers_in-requires-clause-drivers : goal.drivers_in-requires-clause-drivers
drivers_in-requires-clause-drivers c =
    let models = c.args.scope.now.models.now in
    let order = c.args.order.now in
    let k = c.loop-place.place-index in
    let place = get_or order k 0 in
    let model = get_or models place c.index-scope-place.result in
    let there = c.requires.order.listing.there k 0 c.loop-place-test.true in
    let at : model ≡ get_or models place model = get_or_default models place c.index-scope-place.result model there in
    let held = step_callees models order k model model.lines c.requires.order.listing c.loop-place-test.true at refl in
    subst (λ drivers. All (IsDrivenAt models drivers) (callees models model.lines)) (sym c.deref.ensures.value) (callees_driven models c.loop-place.drivers (take k order) (callees models model.lines) c.loop-place.invariant.1 held)

pub loop-place-preserved : goal.loop-place-preserved
loop-place-preserved c =
    let models = c.args.scope.now.models.now in
    let order = c.args.order.now in
    let k = c.loop-place.place-index in
    let place = get_or order k 0 in
    let drivers = c.loop-place.drivers in
    let model = get_or models place c.index-scope-place.result in
    let there = c.requires.order.listing.there k 0 c.loop-place-test.true in
    let here = driven_at models place c.index-scope-place.result c.in_ok-driven.driven there c.in_ok-driven.ensures in
    let new = c.set.ensures in
    (ap length new ∙ (length-set drivers place c.in_ok-driven.driven ∙ c.loop-place.invariant.0), subst (λ ds. All (IsDrivenAt models ds) (take (k + 1) order)) (sym new) (driven_more models order k place drivers c.in_ok-driven.driven c.loop-place-test.true (get_or_default order k 0 place c.loop-place-test.true) (omega (arith, there, c.loop-place.invariant.0)) here c.loop-place.invariant.1))

pub returns : goal.returns
returns c =
    all_driven c.args.scope.now.models.now c.loop-place.drivers c.args.order.now c.loop-place.place-index c.loop-place-test.false c.loop-place.invariant.0 c.requires.order.whole c.loop-place.invariant.1
