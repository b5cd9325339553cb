use Rattle.std.proofs.Common.{◌≡◌, ◌<◌, ◌≤◌, length, get_or, vec_len, sym, subst, ◌∙◌, refl, arith}
use Rattle.std.proofs.lemmas.List.{get_or_default}
use Rattle.hier_blif.specs.Order.{AreLooked}
use Rattle.hier_blif.proofs.OrderLemmas.{IsLineOf, bounds_on, looked_more, looked_all, call_found}
use Rattle.hier_blif.proofs.order.ModelSearch.next_call.Goals as goal

pub loop-line-init : goal.loop-line-init
loop-line-init c =
    let models = c.args.scope.now.models.now in
    let order = c.args.self.now.order.items in
    let looked = c.args.self.now.looked.items in
    let place = c.args.place in
    let same = get_or_default looked place 0 c.index-line.result.now (omega (arith, c.requires.there, c.requires.knows.looked_entries)) ∙ sym c.index-line.ensures in
    subst (AreLooked models order place) same (c.requires.knows.lines place c.requires.there)

pub unlisted_on-requires-clause-there : goal.unlisted_on-requires-clause-there
unlisted_on-requires-clause-there c =
    let models = c.args.scope.now.models.now in
    let place = c.args.place in
    let model = get_or models place c.index-scope-place.result in
    let k = c.loop-line.line in
    let line = c.index.result.now in
    let below : k < length model.lines = omega (arith, c.loop-line-test.true, c.len-line-end.ensures) in
    let at : IsLineOf models place model k line = record {
      there = c.requires.there;
      model_is = get_or_default models place c.index-scope-place.result model c.requires.there;
      within = below;
      line_is = c.index.ensures;
    } in
    let entries : vec_len c.args.self.now.visits ≡ length models = omega (arith, c.requires.knows.entries) in
    bounds_on models place model k line (vec_len c.args.self.now.visits) at entries c.requires.models

pub returns-in-Some-clause-some : goal.returns-in-Some-clause-some
returns-in-Some-clause-some c =
    let models = c.args.scope.now.models.now in
    let place = c.args.place in
    let model = get_or models place c.index-scope-place.result in
    let k = c.loop-line.line in
    let line = c.index.result.now in
    let below : k < length model.lines = omega (arith, c.loop-line-test.true, c.len-line-end.ensures) in
    let at : IsLineOf models place model k line = record {
      there = c.requires.there;
      model_is = get_or_default models place c.index-scope-place.result model c.requires.there;
      within = below;
      line_is = c.index.ensures;
    } in
    let found = c.in-Some.ensures.some c.in-Some.callee refl in
    λ call same. call_found models c.args.self.now.visits.items c.args.self.now.looked.items c.args.self.now.stack.items c.args.self.now.order.items place model k line c.in-Some.callee call at c.requires.models c.loop-line.invariant found.0 found.1 same

pub loop-line-preserved : goal.loop-line-preserved
loop-line-preserved c =
    let models = c.args.scope.now.models.now in
    let place = c.args.place in
    let model = get_or models place c.index-scope-place.result in
    let k = c.loop-line.line in
    let line = c.index.result.now in
    let below : k < length model.lines = omega (arith, c.loop-line-test.true, c.len-line-end.ensures) in
    let at : IsLineOf models place model k line = record {
      there = c.requires.there;
      model_is = get_or_default models place c.index-scope-place.result model c.requires.there;
      within = below;
      line_is = c.index.ensures;
    } in
    looked_more models c.args.self.now.visits.items c.args.self.now.looked.items c.args.self.now.stack.items c.args.self.now.order.items place model k line at c.requires.knows (c.in_default.ensures.none refl) c.loop-line.invariant

pub returns-clause-none : goal.returns-clause-none
returns-clause-none c =
    let models = c.args.scope.now.models.now in
    let place = c.args.place in
    let model = get_or models place c.index-scope-place.result in
    let k = c.loop-line.line in
    let past : length model.lines ≤ k = omega (arith, c.loop-line-test.false, c.len-line-end.ensures) in
    let is = get_or_default models place c.index-scope-place.result model c.requires.there in
    λ none. looked_all models c.args.self.now.order.items place model k c.requires.there is past c.loop-line.invariant
