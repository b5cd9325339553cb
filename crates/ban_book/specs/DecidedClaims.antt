-- Claims that facts decide.
use Rattle.std.specs.Prelude.{◌≡◌, ℕ, ◌<◌, Bool, List, [], ◌∷◌, ◌++◌, length}
use Rattle.claim_core.specs.declared.claims.Claim.{Claim}
use Rattle.account_core.specs.Given.{Decided, decided, fact_at, given_of}

-- The fact of this number decides a claim: it holds, or it fails.
pub record IsDecidedAs (facts : List Decided) (claim : Claim) (holds : Bool) (number : ℕ) : Type 0 where
  pub within : number < length facts
  pub says : fact_at (given_of facts []) number ≡ decided claim holds

-- The number of such a fact was added after others.
pub record AddsFact (facts : List Decided) (claim : Claim) (holds : Bool) (before after : List ℕ) : Type 0 where
  pub number : ℕ
  pub decided : IsDecidedAs facts claim holds number
  pub more : after ≡ before ++ number ∷ []
