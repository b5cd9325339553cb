-- The variables that stand in a clause.
use Rattle.std.proofs.Common.{◌<◌, All, sym, ap, subst, ◌∙◌}
use Rattle.cnf_core.specs.Clauses.{clause_at, variable_of}
use Rattle.claim_core.specs.Queries.{IsQuery}
use Rattle.claim_core.specs.Formulas.{Asking, formula_of, query_clauses}
use Rattle.claim_core.proofs.FormulaLemmas.{clause_below}
use Rattle.query_core.proofs.VariableLemmas.{clauses_are}
use Rattle.query_core.proofs.base.QueryBaseBase.clause.Goals as goal

pub returns-clause-variables : goal.returns-clause-variables
returns-clause-variables c =
    let asking = c.args.self.now in
    let inside = c.self.inside in
    let id = c.args.id in
    let fits = subst (λ (a : Asking). IsQuery a.graphs a.query) c.self.view_is c.self.invariant.fits in
    let value = c.clause_over.ensures.value ∙ (ap (λ cs. clause_at cs id) (clauses_are inside.graphs.now inside.query inside.left inside.right c.self.invariant.left_is c.self.invariant.right_is) ∙ ap (λ (a : Asking). clause_at (query_clauses a.graphs a.query) id) c.self.view_is) in
    subst (All (λ l. variable_of l < (formula_of asking.graphs asking.query).variables)) (sym value) (clause_below asking.graphs asking.query id fits)
