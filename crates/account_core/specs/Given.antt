-- The facts and bans that an account has given so far, each numbered from 0 in its own order (this project's format).
use Rattle.std.specs.Prelude.{ℕ, ◌<◌, Bool, true, false, List, [], ◌++◌, length, map, slice_index_or}
use Rattle.circuits.specs.declared.port.Pair.{Pair}
use Rattle.net_core.specs.Sides.{Graphs}
use Rattle.net_core.specs.declared.graphs.Side.TheVariants.{First}
use Rattle.claim_core.specs.declared.claims.Claim.{Claim}
use Rattle.claim_core.specs.declared.claims.Shape.TheVariants.{Up}
use Rattle.claim_core.specs.Claims.{IsClaim, Holds, Breaks}
use Rattle.account_core.specs.declared.fact.Evidence.{Evidence}
use Rattle.account_core.specs.declared.fact.Evidence.TheVariants as evidence
use Rattle.account_core.specs.declared.fact.Fact.{Fact}
use Rattle.account_core.specs.declared.step.Ban.{Ban}

-- A claim that was decided: it holds, or it fails.
pub record Decided : Type 0 where
  pub claim : Claim
  pub holds : Bool

-- a claim, as one that holds or as one that fails
abbrev pub decided : Claim → Bool → Decided
decided claim holds = record { claim = claim; holds = holds }

-- what a fact decides
abbrev pub shown_by : Claim → Evidence → Decided
shown_by claim (evidence.Fails bits) = decided claim false
shown_by claim (evidence.Holds log) = decided claim true

-- what a fact says of its claim: that it holds, by a log, or that it fails, by a vector
abbrev pub decided_by : Fact → Decided
decided_by fact = shown_by fact.claim fact.evidence

-- The facts, and the pairs of each ban.
pub record Given : Type 0 where
  pub facts : List Decided
  pub bans : List (List Pair)

-- what stands for a fact that isn't there
abbrev pub no_fact : Decided
no_fact = decided (record { side = First; output = 0; shape = Up 0 }) true

-- fact number k
abbrev pub fact_at : Given → ℕ → Decided
fact_at given k = slice_index_or given.facts k no_fact

-- the pairs of ban number b
abbrev pub ban_at : Given → ℕ → List Pair
ban_at given b = slice_index_or given.bans b []

-- the account has given a fact of this number
abbrev pub IsFactGiven : Given → ℕ → Type 0
IsFactGiven given k = k < length given.facts

-- the account has given a ban of this number
abbrev pub IsBanGiven : Given → ℕ → Type 0
IsBanGiven given b = b < length given.bans

-- the pairs of each ban
abbrev pub pairs_of : List Ban → List (List Pair)
pairs_of bans = map (λ ban. ban.pairs) bans

-- these facts and bans
abbrev pub given_of : List Decided → List Ban → Given
given_of facts bans = record { facts = facts; bans = pairs_of bans }

-- what is given when more facts and bans came after
abbrev pub with_more : Given → List Decided → List (List Pair) → Given
with_more given facts bans = record { facts = given.facts ++ facts; bans = given.bans ++ bans }

-- what a decided claim says of two circuits: it holds, or some vector breaks it
abbrev pub Says : Graphs → Claim → Bool → Type 0
Says graphs claim true = Holds graphs claim
Says graphs claim false = (x : List Bool) × Breaks graphs claim x

-- The claim's output and inputs are there, and what is said of it is so.
pub record IsTrueFact (graphs : Graphs) (fact : Decided) : Type 0 where
  pub placed : IsClaim graphs fact.claim
  pub says : Says graphs fact.claim fact.holds
