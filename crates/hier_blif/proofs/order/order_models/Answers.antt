use Rattle.std.proofs.Common.{◌<◌, ℕ, All, Contains, length, sym, subst}
use Rattle.std.specs.List.{flat_map}
use Rattle.hier_blif.specs.Names.{instances_on, instances_of}
use Rattle.hier_blif.specs.Order.{callees, IsRecursionAmong, Explores}
use Rattle.hier_blif.proofs.StopLemmas.{stop_passed}
use Rattle.hier_blif.proofs.OrderLemmas.{callees_here, among_first, listed_more, all_deep}
use Rattle.hier_blif.proofs.order.order_models.Goals as goal

pub explore_all-requires-clause-there : goal.explore_all-requires-clause-there
explore_all-requires-clause-there c =
    let models = c.args.scope.now.models.now in
    let k = c.loop-place.place in
    let P = λ (q : ℕ). q < length models in
    subst (λ ls. All P (callees models ls)) (sym c.deref.ensures.value) (subst (All P) (callees_here models k c.model-item.result c.loop-place-test.true c.model-item.is) (c.requires.there.each k c.loop-place-test.true))

pub returns-in_err-explore_all-clause-fault : goal.returns-in_err-explore_all-clause-fault
returns-in_err-explore_all-clause-fault c =
    let models = c.args.scope.now.models.now in
    stop_passed c.explore_all.result _ _ _ _ c.in_err-explore_all.was c.from_residual-in_err-explore_all.ensures.1 c.explore_all.ensures.fault (λ fault h. among_first models instances_of models c.loop-place.place c.model-item.result fault c.loop-place-test.true c.model-item.is c.loop-place.invariant.deep (subst (λ ls. IsRecursionAmong models (flat_map instances_on ls) fault) c.deref.ensures.value h))

pub loop-place-preserved : goal.loop-place-preserved
loop-place-preserved c =
    let models = c.args.scope.now.models.now in
    let k = c.loop-place.place in
    let mid = c.explore_all.new.self in
    let first = subst (λ ls. Explores models (callees models ls) c.loop-place.search mid) c.deref.ensures.value c.in_ok-explore_all.ensures.listed in
    let all = subst (All (Contains mid.order.items)) (sym (callees_here models k c.model-item.result c.loop-place-test.true c.model-item.is)) first.listed in
    listed_more models k c.model-item.result c.loop-place.search mid c.list_new.new.self c.loop-place-test.true c.model-item.is c.loop-place.invariant first (c.in_ok-list_new.ensures models first.ready all)

pub returns-clause-deep : goal.returns-clause-deep
returns-clause-deep c =
    all_deep c.args.scope.now.models.now c.loop-place.place c.loop-place-test.false c.loop-place.invariant.deep
