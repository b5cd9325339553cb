-- There are as many clauses as the query has.
use Rattle.std.proofs.Common.{length, sym, ap, ◌∙◌}
use Rattle.claim_core.specs.Formulas.{query_clauses}
use Rattle.query_core.specs.ClaimClauses.{PartialQuery}
use Rattle.query_core.proofs.ClaimClauseLemmas.{present_count}
use Rattle.query_core.proofs.claim_base.ClaimBaseBase.count.Goals as goal

pub returns-clause-value : goal.returns-clause-value
returns-clause-value c =
    c.count_of.ensures.value ∙ (ap (λ (t : PartialQuery). length (query_clauses t.graphs t.query)) c.self.view_is ∙ sym (present_count c.args.self.now))
