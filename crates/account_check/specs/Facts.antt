-- What is wrong with the line of a fact (this project's format).
use Rattle.std.specs.Prelude.{ℕ, ◌<◌, length, Option}
use Rattle.net_core.specs.Sides.{Graphs}
use Rattle.net_core.specs.Sides.{graph_of}
use Rattle.claim_core.specs.declared.claims.Shape.{Shape}
use Rattle.claim_core.specs.declared.claims.Shape.TheVariants.{Up, Down, Swap}
use Rattle.claim_core.specs.declared.claims.Claim.{Claim}
use Rattle.claim_core.specs.Claims.{Breaks}
use Rattle.account_core.specs.declared.fact.FactHead.{FactHead}
use Rattle.account_core.specs.declared.fact.FactHead.TheVariants as fact
use Rattle.account_check.specs.declared.reject.Reject.{Reject}
use Rattle.account_check.specs.declared.reject.Reject.TheVariants as reject
use Rattle.account_check.specs.Tests.{Passed, Unless}

-- the inputs of a shape are there
abbrev pub AreInputs : ℕ → Shape → Type 0
AreInputs n (Up i) = i < n
AreInputs n (Down i) = i < n
AreInputs n (Swap i j a b) = (i < n) × (j < n)

-- The output and the inputs of a claim are there.
pub record ArePortsThere (graphs : Graphs) (claim : Claim) : Type 0 where
  pub output : claim.output < length (graph_of graphs claim.side).outputs
  pub inputs : AreInputs (graph_of graphs claim.side).inputs claim.shape

-- a swap has its lesser input first
abbrev pub IsLesserFirst : Shape → Type 0
IsLesserFirst (Up i) = Unit {0}
IsLesserFirst (Down i) = Unit {0}
IsLesserFirst (Swap i j a b) = i < j

-- the tests of a claim, and those after them
abbrev pub ClaimTests : Graphs → Claim → (Option Reject → Type 0) → Option Reject → Type 0
ClaimTests graphs claim Rest fault =
    Unless (ArePortsThere graphs claim) reject.UnknownId (Unless (IsLesserFirst claim.shape) reject.Rule Rest) fault

-- the tests of a fact: the vector of one that fails breaks its claim; the log of one that holds follows
abbrev pub FactTests : Graphs → FactHead → Option Reject → Type 0
FactTests graphs (fact.Fails claim bits) fault =
    ClaimTests graphs claim (Unless (Breaks graphs claim bits) reject.VectorFails Passed) fault
FactTests graphs (fact.Holds claim) fault = ClaimTests graphs claim Passed fault
