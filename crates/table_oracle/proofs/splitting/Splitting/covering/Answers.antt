use Rattle.std.proofs.Common.{ℕ, Option, sym, subst}
use Rattle.std.specs.Option.{IfNone}
use Rattle.cnf_core.specs.Derivations.{clauses_of}
use Rattle.claim_core.specs.Formulas.{query_clauses}
use Rattle.table_oracle.specs.Splits.{IsNew, clauses_in}
use Rattle.table_oracle.proofs.SplitLemmas.{covering_after, new_both}
use Rattle.table_oracle.proofs.splitting.Splitting.covering.Goals as goal

pub returns-in_err-place-clause-none : goal.returns-in_err-place-clause-none
returns-in_err-place-clause-none c =
    let base = c.args.self.now.base in
    let clause = c.args.clause.now in
    subst (λ (r : Option ℕ). IfNone r (IsNew (clauses_in base c.args.lines.now) clause)) (sym c.from_residual.ensures) (new_both (query_clauses base.graphs base.query) (clauses_of c.args.lines.now) clause c.in_default.ensures.none c.in_err-place.ensures.none)

pub returns-clause-found : goal.returns-clause-found
returns-clause-found c =
    let base = c.args.self.now.base in
    covering_after (query_clauses base.graphs base.query) (clauses_of c.args.lines.now) c.args.clause.now c.count.result c.in_ok-place.place c.count.ensures.value c.in_ok-place.ensures.found
