-- Lists of ports and of facts that are read from the front.
use Rattle.std.specs.Prelude.{◌≡◌, ℕ, ◌+◌, ◌/◌, ◌<◌, ◌≤◌, ◌==◌, Bool, List, length, All, Option, None, Some, if◌then◌else◌}
use Rattle.circuits.specs.declared.port.Pair.{Pair}
use Rattle.circuits.specs.declared.port.PortKind.TheVariants.{Output}
use Rattle.claim_core.specs.declared.claims.Shape.{Shape}
use Rattle.claim_core.specs.declared.claims.Shape.TheVariants.{Up, Down, Swap}
use Rattle.claim_core.specs.declared.claims.Claim.{Claim}
use Rattle.account_core.specs.declared.step.Tallied.{Tallied}
use Rattle.account_core.specs.declared.step.Tallied.TheVariants.{Support, Binate}
use Rattle.account_core.specs.Given.{Given, fact_at, IsBanGiven}
use Rattle.account_core.specs.Tallies.{other_side, port_on, shapes_of, AreBothOfEach, AreOfEach, Ascend}

-- Numbers ascend, from `least` on.
pub record AscendFrom (least : ℕ) (numbers : List ℕ) : Type 0 where
  pub ascend : Ascend numbers
  pub least_first : All (λ number. least ≤ number) numbers

-- Shapes of one input each, up or down, whose inputs ascend from `least` on.
pub record GoOverInputs (least : ℕ) (shapes : List Shape) : Type 0 where
  pub inputs : List ℕ
  pub of_each : AreOfEach inputs shapes
  pub ascend : AscendFrom least inputs

-- Shapes in twos, up and then down of one input, whose inputs ascend from `least` on.
pub record GoOverTwice (least : ℕ) (shapes : List Shape) : Type 0 where
  pub inputs : List ℕ
  pub both_of_each : AreBothOfEach inputs shapes
  pub ascend : AscendFrom least inputs

-- the input of a shape of one input
abbrev pub one_input : Shape → Option ℕ
one_input (Up i) = Some i
one_input (Down i) = Some i
one_input (Swap i j a b) = None

-- the input that goes up in the one shape and down in the other, if it is one input
abbrev pub twin_input : Shape → Shape → Option ℕ
twin_input (Up i) (Down j) = if i == j then Some i else None
twin_input one other = None

-- an input from `least` on, and the least that may follow
abbrev pub IsNext : ℕ → Option ℕ → ℕ → Type 0
IsNext least input next = (i : ℕ) × (input ≡ Some i) × (least ≤ i) × (next ≡ i + 1)

-- A fact is of a claim's output, and of a claim that holds, or of one that fails.
pub record SaysOf (given : Given) (number : ℕ) (holds : Bool) (claim : Claim) : Type 0 where
  pub says : (fact_at given number).holds ≡ holds
  pub of_side : (fact_at given number).claim.side ≡ claim.side
  pub of_output : (fact_at given number).claim.output ≡ claim.output

-- Two claims are of the outputs of a pair.
pub record ArePaired (one other : Claim) (pair : Pair) : Type 0 where
  pub of_outputs : pair.kind ≡ Output
  pub apart : other.side ≡ other_side one.side
  pub one_output : port_on one.side pair ≡ one.output
  pub other_output : port_on other.side pair ≡ other.output

-- Facts of one input each, and facts that come in twos, are of more inputs together than there are.
pub record AreTooMany (inputs : ℕ) (given : Given) (each twice : List ℕ) : Type 0 where
  pub go_over : GoOverInputs 0 (shapes_of given each)
  pub go_over_twice : GoOverTwice 0 (shapes_of given twice)
  pub too_many : inputs < length each + length twice / 2

-- the same of a tally's lists: what one output has is shown by one fact an input, and what the other lacks by two; or
-- the other way round
abbrev pub HaveTooMany : ℕ → Given → Tallied → List ℕ → List ℕ → Type 0
HaveTooMany inputs given Support have lack = AreTooMany inputs given have lack
HaveTooMany inputs given Binate have lack = AreTooMany inputs given lack have

-- The ban that is referred to was given, if one is.
pub record IsReferredBanGiven (given : Given) (reference : Option ℕ) : Type 0 where
  pub given_if_named : (ban : ℕ) → reference ≡ Some ban → IsBanGiven given ban
