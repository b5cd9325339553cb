-- The variables are right for the gates of the cones.
use Rattle.std.proofs.Common.{◌<◌, All, Contains, sym, ap, subst, ◌∙◌}
use Rattle.cnf_core.specs.Clauses.{clause_at, variable_of}
use Rattle.claim_core.specs.Queries.{IsQuery}
use Rattle.claim_core.specs.ConeClauses.{Coned}
use Rattle.claim_core.specs.Formulas.{formula_of, query_clauses}
use Rattle.claim_core.proofs.FormulaLemmas.{clause_below}
use Rattle.claim_core.proofs.LawLemmas.{ordered_side}
use Rattle.query_core.proofs.VariableLemmas.{cone_clause}
use Rattle.query_core.proofs.cone_clauses.ConeClauses.clause.Goals as goal

pub returns-clause-value : goal.returns-clause-value
returns-clause-value c =
    let inside = c.self.inside in
    let graphs = inside.graphs.now in
    let query = inside.query in
    let id = c.args.id in
    let first = c.first-first.ensures.sound in
    let second = c.second-second.ensures.sound in
    let has : Contains inside.ids.items id = subst (λ (x : Coned). Contains x.ids id) (sym c.self.view_is) c.requires in
    let cone = (c.self.invariant.are.cones id).0 has in
    c.clause_over.ensures.value
    ∙ (cone_clause graphs query inside.left inside.right inside.ids.items id (ordered_side graphs query.left.side first second) (ordered_side graphs query.right.side first second) c.self.invariant cone
    ∙ ap (λ (x : Coned). clause_at (query_clauses x.graphs x.query) id) c.self.view_is)

pub returns-clause-variables : goal.returns-clause-variables
returns-clause-variables c =
    let coned = c.args.self.now in
    let id = c.args.id in
    let fits = subst (λ (x : Coned). IsQuery x.graphs x.query) c.self.view_is c.self.invariant.fits in
    subst (All (λ l. variable_of l < (formula_of coned.graphs coned.query).variables)) (sym (returns-clause-value c)) (clause_below coned.graphs coned.query id fits)
