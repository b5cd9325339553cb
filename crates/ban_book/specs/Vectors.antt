-- A ban by a vector is a last resort: it is made only where no claim of one input shows one (unateness and support of
-- functions, as in textbooks of logic synthesis; a match keeps both: Katebi and Markov, DATE 2010).
use Rattle.std.specs.Prelude.{◌≡◌, ◌≢◌, ℕ, ⊤, Bool, List, [], All, AllPairs, Contains}
use Rattle.circuits.specs.declared.port.Pair.{Pair}
use Rattle.circuits.specs.declared.port.PortKind.TheVariants.{Output}
use Rattle.net_core.specs.Sides.{Graphs, graph_of}
use Rattle.net_core.specs.declared.graphs.Side.{Side}
use Rattle.claim_core.specs.declared.claims.Claim.{Claim}
use Rattle.claim_core.specs.declared.claims.Shape.{Shape}
use Rattle.claim_core.specs.declared.claims.Shape.TheVariants.{Up, Down, Swap}
use Rattle.claim_core.specs.Claims.{IsClaim, IsPlaced}
use Rattle.account_core.specs.declared.step.Ban.{Ban}
use Rattle.account_core.specs.declared.step.Step.{Step}
use Rattle.account_core.specs.declared.step.Step.TheVariants as step
use Rattle.account_core.specs.declared.step.Tallied.{Tallied}
use Rattle.account_core.specs.Given.{Decided, decided, fact_at, given_of}
use Rattle.account_core.specs.Steps.{AreNamesKnown, KeepsRule}
use Rattle.account_core.specs.Tallies.{port_on}

-- a step is a vector
abbrev pub IsVector : Step → Type 0
IsVector (step.Vector output values) = ⊤
IsVector (step.Mismatch fails holds) = ⊥
IsVector (step.Tally kind have lack) = ⊥
IsVector (step.Cover kind from to refs) = ⊥

-- a shape has one input
abbrev pub HasOneInput : Shape → Type 0
HasOneInput (Up i) = ⊤
HasOneInput (Down i) = ⊤
HasOneInput (Swap i j a b) = ⊥

-- The claims of facts are well placed, and no two facts are of one claim.
pub record AreDecided (graphs : Graphs) (facts : List Decided) : Type 0 where
  pub placed : All (λ fact. IsClaim graphs fact.claim) facts
  pub distinct : AllPairs (λ one other. one.claim ≢ other.claim) facts

-- a claim was decided: it holds, or it fails
abbrev pub IsDecided : List Decided → Claim → Type 0
IsDecided facts claim = (holds : Bool) × Contains facts (decided claim holds)

-- For each input of a circuit it was decided whether an output may fall where the input goes up, and where it goes
-- down.
pub record AreInputsDecided (facts : List Decided) (inputs : ℕ) (side : Side) (output : ℕ) : Type 0 where
  pub each : (shape : Shape)
      → HasOneInput shape
      → IsPlaced inputs shape
      → IsDecided facts (record { side = side; output = output; shape = shape })

-- So it was decided of both outputs of a pair, for all inputs of their circuits.
pub record AreEndsDecided (graphs : Graphs) (facts : List Decided) (pair : Pair) : Type 0 where
  pub each : (side : Side) → AreInputsDecided facts (graph_of graphs side).inputs side (port_on side pair)

-- A step names facts that are there, and is valid for pairs.
pub record IsShownBy (graphs : Graphs) (facts : List Decided) (pairs : List Pair) (step : Step) : Type 0 where
  pub names : AreNamesKnown graphs (given_of facts []) step
  pub rule : KeepsRule graphs (given_of facts []) pairs step

-- No mismatch of claims of one input is valid for pairs, and no tally is.
pub record HaveNoFacts (graphs : Graphs) (facts : List Decided) (pairs : List Pair) : Type 0 where
  pub no_mismatch : (fails holds : ℕ)
      → HasOneInput (fact_at (given_of facts []) fails).claim.shape
      → IsShownBy graphs facts pairs (step.Mismatch fails holds)
      → ⊥
  pub no_tally : (kind : Tallied) (have lack : List ℕ) → IsShownBy graphs facts pairs (step.Tally kind have lack) → ⊥

-- If the ban is by a vector, then all claims of one input at its two outputs are decided, and none of them shows a ban
-- of its pairs.
pub record IsLastResort (graphs : Graphs) (facts : List Decided) (ban : Ban) : Type 0 where
  pub decided : All (λ pair. pair.kind ≡ Output → AreEndsDecided graphs facts pair) ban.pairs
  pub no_facts : HaveNoFacts graphs facts ban.pairs

-- Each ban that a vector shows is a last resort.
pub record AreLastResorts (graphs : Graphs) (facts : List Decided) (bans : List Ban) : Type 0 where
  pub each : All (λ ban. IsVector ban.step → IsLastResort graphs facts ban) bans

-- none of these bans is by a vector
abbrev pub AddsNoVector : List Ban → Type 0
AddsNoVector added = All (λ ban. IsVector ban.step → ⊥) added
