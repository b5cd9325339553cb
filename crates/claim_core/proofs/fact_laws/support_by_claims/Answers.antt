-- A change of the output is a fall in one of two directions.
use Rattle.claim_core.proofs.ClaimLaws.{outside-holds, inside-fails}
use Rattle.claim_core.proofs.fact_laws.support_by_claims.Goals as goal

pub returns : goal.returns
returns c = record { outside = outside-holds; inside = inside-fails }
