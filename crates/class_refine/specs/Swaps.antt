-- Claims of two inputs that pairs carry to the second circuit.
use Rattle.std.specs.Prelude.{◌≡◌, ℕ, ◌<◌, Bool, List, [], Option, Some, IfSome, IsSome, length}
use Rattle.std.specs.Map.{lookup}
use Rattle.circuits.specs.declared.port.Pair.{Pair}
use Rattle.circuits.specs.declared.port.PortKind.TheVariants.{Input, Output}
use Rattle.net_core.specs.declared.graphs.Side.TheVariants.{First}
use Rattle.claim_core.specs.declared.claims.Claim.{Claim}
use Rattle.claim_core.specs.declared.claims.Shape.TheVariants.{Swap}
use Rattle.claim_core.specs.contracts.claims.ClaimPartialEq.TheImpl.{eq-value as claim_eq}
use Rattle.claim_core.specs.Images.{claim_of_second, moved_value, pair_of, two_inputs}
use Rattle.account_core.specs.Given.{Decided, fact_at, given_of}
use Rattle.account_core.specs.Mismatches.{IsImage}
use Rattle.class_refine.specs.declared.swaps.Exchange.{Exchange}
use Rattle.class_refine.specs.Stable.{HasTwoInputs}

-- The pairs of a claim's output and of its two inputs.
pub record IsExchange (pairs : List Pair) (claim : Claim) (exchange : Exchange) : Type 0 where
  pub i : ℕ
  pub j : ℕ
  pub claim_is : claim ≡ record { side = First; output = claim.output; shape = Swap i j exchange.a exchange.b }
  pub of_output : pair_of pairs Output claim.output ≡ Some exchange.output
  pub of_one : pair_of pairs Input i ≡ Some exchange.one
  pub of_other : pair_of pairs Input j ≡ Some exchange.other

-- the claim that the pairs carry it to
abbrev pub carried_to : Exchange → Claim
carried_to e =
    claim_of_second e.output.to
    (two_inputs e.one.to (moved_value e.output.flip e.one e.a) e.other.to (moved_value e.output.flip e.other e.b))

-- a fact of a claim of two inputs says what any fact of its image says
abbrev pub AgreesAt : List Decided → List Pair → ℕ → Type 0
AgreesAt facts pairs k =
    (other : ℕ)
    → other < length facts
    → HasTwoInputs (fact_at (given_of facts []) k).claim.shape
    → IsImage pairs (fact_at (given_of facts []) k).claim (fact_at (given_of facts []) other).claim
    → (fact_at (given_of facts []) k).holds ≡ (fact_at (given_of facts []) other).holds

-- a fact says of a claim that it holds, or fails, if it is one of that claim
abbrev pub SaysOf : List Decided → Claim → Bool → ℕ → Type 0
SaysOf facts claim holds k =
    (fact_at (given_of facts []) k).claim ≡ claim → (fact_at (given_of facts []) k).holds ≡ holds

-- the number that an index has for a claim
abbrev pub number_in : List (Claim × ℕ) → Claim → Option ℕ
number_in entries claim = lookup (claim_eq.it claim) entries

-- What an index has for a claim is the number of a fact of it, and it has one for each of the first facts that is of
-- two inputs.
pub record IsIndexOfFirst (facts : List Decided) (count : ℕ) (entries : List (Claim × ℕ)) : Type 0 where
  pub each : (claim : Claim) → IfSome (number_in entries claim) (λ number.
      (number < length facts) × ((fact_at (given_of facts []) number).claim ≡ claim))
  pub all : (k : ℕ)
      → k < count
      → HasTwoInputs (fact_at (given_of facts []) k).claim.shape
      → IsSome (number_in entries (fact_at (given_of facts []) k).claim)

-- each fact of a claim of two inputs is found by its claim
abbrev pub IsSwapIndex : List Decided → List (Claim × ℕ) → Type 0
IsSwapIndex facts entries = IsIndexOfFirst facts (length facts) entries
