use Rattle.claim_core.proofs.MatchLemmas.{match_of_unmet, unmet_of_match}
use Rattle.claim_core.proofs.laws.match_by_queries.Goals as goal

pub returns : goal.returns
returns c = record { matches = match_of_unmet; unmet = unmet_of_match }
