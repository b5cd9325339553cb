-- A claim that fails for one circuit while the claim that a match would carry it to holds for the other.
use Rattle.std.specs.Prelude.{◌≡◌, ◌⊎◌, ℕ, true, false, List, Some}
use Rattle.circuits.specs.declared.port.Pair.{Pair}
use Rattle.net_core.specs.declared.graphs.Side.TheVariants.{First}
use Rattle.claim_core.specs.declared.claims.Claim.{Claim}
use Rattle.claim_core.specs.Images.{image_of}
use Rattle.account_core.specs.Given.{Given, fact_at}

-- a claim is of the first circuit, and another one is its image under the pairs
abbrev pub IsImage : List Pair → Claim → Claim → Type 0
IsImage pairs claim image = (claim.side ≡ First) × (image_of pairs claim ≡ Some image)

-- One fact fails and one holds; one is of the first circuit, and the other one is of its image.
pub record IsMismatch (given : Given) (pairs : List Pair) (fails holds : ℕ) : Type 0 where
  pub one_fails : (fact_at given fails).holds ≡ false
  pub other_holds : (fact_at given holds).holds ≡ true
  pub image : IsImage pairs (fact_at given fails).claim (fact_at given holds).claim
      ⊎ IsImage pairs (fact_at given holds).claim (fact_at given fails).claim
