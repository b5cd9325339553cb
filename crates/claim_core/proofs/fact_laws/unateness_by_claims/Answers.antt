-- A claim that doesn't hold is broken by a vector.
use Rattle.claim_core.proofs.ClaimLaws.{binate-fails}
use Rattle.claim_core.proofs.fact_laws.unateness_by_claims.Goals as goal

pub returns : goal.returns
returns c =
    record { positive = λ net k i. (λ h. h, λ h. h); negative = λ net k i. (λ h. h, λ h. h); binate = binate-fails }
