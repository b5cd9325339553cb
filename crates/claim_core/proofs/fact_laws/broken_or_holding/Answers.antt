-- A search over all vectors decides.
use Rattle.claim_core.proofs.ClaimLaws.{holds_or_fails, no_break}
use Rattle.claim_core.proofs.fact_laws.broken_or_holding.Goals as goal

pub returns : goal.returns
returns c = record { decided = holds_or_fails; apart = λ net k shape placed. no_break net k shape }
