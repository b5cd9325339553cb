-- What refining comes to: no ban and no fact excludes any pair that remains (arc consistency: Mackworth, Artif. Intell.
-- 1977; functional properties of ports: Katebi and Markov, DATE 2010).
use Rattle.std.specs.Prelude.{ℕ, ◌<◌, ⊤, List, [], ◌∷◌, length, All}
use Rattle.circuits.specs.declared.port.Pair.{Pair}
use Rattle.circuits.specs.declared.port.PortKind.{PortKind}
use Rattle.net_core.specs.Sides.{Graphs, graph_of}
use Rattle.net_core.specs.declared.graphs.Side.{Side}
use Rattle.net_core.specs.declared.graphs.Side.TheVariants.{First, Second}
use Rattle.account_core.specs.Covers.{IsImpossible}
use Rattle.claim_core.specs.declared.claims.Shape.{Shape}
use Rattle.claim_core.specs.declared.claims.Shape.TheVariants.{Up, Down, Swap}
use Rattle.account_core.specs.Given.{Decided, fact_at, given_of}
use Rattle.account_core.specs.declared.step.Ban.{Ban}
use Rattle.account_core.specs.declared.step.Step.TheVariants as step
use Rattle.ban_book.specs.Covering.{Covers, IsWithin}
use Rattle.ban_book.specs.Vectors.{AreInputsDecided, HaveNoFacts, IsShownBy}
use Rattle.account_core.specs.Assigned.{IsOf}
use Rattle.pair_domains.specs.Trails.{Domained, IsDeleted, IsPairOf, assigned_in, ports_of}
use Rattle.class_refine.specs.declared.refined.Refined.{Refined}
use Rattle.class_refine.specs.declared.refined.Refined.TheVariants as refined

-- the claims of one input of each output of a circuit are decided
abbrev pub AreDecidedOn : Graphs → List Decided → Side → Type 0
AreDecidedOn graphs facts side =
    (output : ℕ) → output < length (graph_of graphs side).outputs → AreInputsDecided facts (graph_of graphs side).inputs side output

-- For each output of both circuits it was decided whether it may fall where an input goes up, and where one goes down.
pub record AreOutputsDecided (graphs : Graphs) (facts : List Decided) : Type 0 where
  pub first : AreDecidedOn graphs facts First
  pub second : AreDecidedOn graphs facts Second

-- no ban is within pairs
abbrev pub HaveNoBan : List Ban → List Pair → Type 0
HaveNoBan bans pairs = All (λ ban. IsWithin pairs ban → ⊥) bans

-- a shape has two inputs
abbrev pub HasTwoInputs : Shape → Type 0
HasTwoInputs (Up i) = ⊥
HasTwoInputs (Down i) = ⊥
HasTwoInputs (Swap i j a b) = ⊤

-- no mismatch of claims of two inputs is valid for pairs
abbrev pub HaveNoSwapMismatch : Graphs → List Decided → List Pair → Type 0
HaveNoSwapMismatch graphs facts pairs =
    (fails holds : ℕ)
    → HasTwoInputs (fact_at (given_of facts []) fails).claim.shape
    → IsShownBy graphs facts pairs (step.Mismatch fails holds)
    → ⊥

-- No ban is within pairs, and no mismatch and no tally is valid for them.
pub record AreClean (graphs : Graphs) (facts : List Decided) (bans : List Ban) (pairs : List Pair) : Type 0 where
  pub no_ban : HaveNoBan bans pairs
  pub no_facts : HaveNoFacts graphs facts pairs
  pub no_swap : HaveNoSwapMismatch graphs facts pairs

-- A pair isn't deleted: it is open, or assigned.
pub record Remains (domains : Domained) (pair : Pair) : Type 0 where
  pub known : IsPairOf domains.inputs domains.outputs pair
  pub left : IsDeleted domains.entries pair → ⊥

-- A port has a pair that isn't deleted.
pub record HasLeft (domains : Domained) (side : Side) (kind : PortKind) (port : ℕ) : Type 0 where
  pub pair : Pair
  pub of_port : IsOf side kind port pair
  pub remains : Remains domains pair

-- The claims of one input are decided, and nothing excludes the assigned pairs. Each pair that isn't deleted clashes
-- with no assigned one, and nothing excludes it beside them. Each port has one.
pub record IsStable (graphs : Graphs) (facts : List Decided) (bans : List Ban) (domains : Domained) : Type 0 where
  pub decided : AreOutputsDecided graphs facts
  pub alone : AreClean graphs facts bans (assigned_in domains.entries)
  pub possible : (pair : Pair) → Remains domains pair → IsImpossible (assigned_in domains.entries) pair → ⊥
  pub beside : (pair : Pair) → Remains domains pair → AreClean graphs facts bans (pair ∷ assigned_in domains.entries)
  pub ports : (side : Side) (kind : PortKind) (port : ℕ)
      → port < ports_of domains.inputs domains.outputs kind
      → HasLeft domains side kind port

-- it is stable, or a ban is within the assigned pairs
abbrev pub IsRefined : Graphs → List Decided → List Ban → Domained → Refined → Type 0
IsRefined graphs facts bans domains refined.Stable = IsStable graphs facts bans domains
IsRefined graphs facts bans domains (refined.Dead number) = Covers bans (assigned_in domains.entries) number
