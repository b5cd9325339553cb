-- The query of a claim fits the two circuits.
use Rattle.std.proofs.Common.{rules, sym, subst}
use Rattle.claim_core.specs.Queries.{IsQuery}
use Rattle.claim_core.proofs.ClaimQueryLemmas.{claim_query_fits}
use Rattle.claim_core.proofs.claim_queries.of_claim.Goals as goal

pub returns-clause-query : goal.returns-clause-query
returns-clause-query c = search rules

pub returns-clause-fits : goal.returns-clause-fits
returns-clause-fits c =
    subst (IsQuery c.args.graphs.now) (sym (returns-clause-query c)) (claim_query_fits c.args.graphs.now c.args.claim.now c.requires)
