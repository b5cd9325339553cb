-- One clause more.
use Rattle.std.proofs.Common.{rules, ◌<◌, ℕ, List, length, slice_index_or, ap, subst, ◌∙◌}
use Rattle.std.proofs.lemmas.List.{get_or_default}
use Rattle.claim_core.specs.Formulas.{formula_of}
use Rattle.ask_core.specs.Renamings.{IsOver}
use Rattle.ask_core.proofs.BaseLemmas.{cone_over_more}
use Rattle.ask_core.proofs.clauses.clauses_of_cones.Goals as goal

pub loop-id-preserved : goal.loop-id-preserved
loop-id-preserved c =
    let full = formula_of c.args.cones.now.graphs c.args.cones.now.query in
    let ids = c.args.cones.now.ids in
    let i = c.loop-id.id-index in
    let same = c.ids-id-items.ensures.value in
    let id = slice_index_or c.ids-id-items.result.now i 0 in
    let within : i < length ids = subst (λ (xs : List ℕ). i < length xs) same c.loop-id-test.true in
    let own : IsOver full.variables c.clause.result = search rules in
    cone_over_more full.variables full.clauses ids i id c.loop-id.clauses.items c.push.new.self.items c.clause.result c.loop-id.invariant within (ap (λ (xs : List ℕ). slice_index_or xs i 0) same ∙ get_or_default ids i 0 id within) c.clause.ensures.value own c.in_ok-push.ensures.items
