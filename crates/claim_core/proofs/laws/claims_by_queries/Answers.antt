use Rattle.claim_core.proofs.ClaimQueryLemmas.{holds-unmet, meets-breaks}
use Rattle.claim_core.proofs.laws.claims_by_queries.Goals as goal

pub returns : goal.returns
returns c = record { holds = holds-unmet; breaks = meets-breaks }
