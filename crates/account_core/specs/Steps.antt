-- When a ban's step is valid in view of the facts and bans given before it (this project's format).
use Rattle.std.specs.Prelude.{◌<◌, List, length, take, All, IsSome}
use Rattle.circuits.specs.declared.port.Pair.{Pair}
use Rattle.circuits.specs.Literals.{EachAt}
use Rattle.circuits.specs.declared.port.PortKind.TheVariants.{Output}
use Rattle.net_core.specs.Sides.{Graphs}
use Rattle.claim_core.specs.Images.{pair_of}
use Rattle.account_core.specs.declared.step.Step.{Step}
use Rattle.account_core.specs.declared.step.Step.TheVariants as step
use Rattle.account_core.specs.declared.step.Ban.{Ban}
use Rattle.account_core.specs.Ports.{IsKnown, AreOrdered}
use Rattle.account_core.specs.Given.{Decided, Given, given_of, IsFactGiven}
use Rattle.account_core.specs.Vectors.{ShowsDifference}
use Rattle.account_core.specs.Mismatches.{IsMismatch}
use Rattle.account_core.specs.Tallies.{IsTally}
use Rattle.account_core.specs.Covers.{AreCoverNames, IsCover}

-- the output, the ports, the facts and the bans that a step names are there
abbrev pub AreNamesKnown : Graphs → Given → Step → Type 0
AreNamesKnown graphs given (step.Vector output values) = output < length graphs.first.outputs
AreNamesKnown graphs given (step.Mismatch fails holds) = IsFactGiven given fails × IsFactGiven given holds
AreNamesKnown graphs given (step.Tally kind have lack) = All (IsFactGiven given) have × All (IsFactGiven given) lack
AreNamesKnown graphs given (step.Cover kind from to refs) = AreCoverNames graphs given kind from to refs

-- the step's rule is kept
abbrev pub KeepsRule : Graphs → Given → List Pair → Step → Type 0
KeepsRule graphs given pairs (step.Vector output values) = IsSome (pair_of pairs Output output)
KeepsRule graphs given pairs (step.Mismatch fails holds) = IsMismatch given pairs fails holds
KeepsRule graphs given pairs (step.Tally kind have lack) = IsTally graphs given pairs kind have lack
KeepsRule graphs given pairs (step.Cover kind from to refs) = IsCover graphs given pairs kind from to refs

-- a step's vector shows that two paired outputs differ; no other step has a vector
abbrev pub HasShown : Graphs → List Pair → Step → Type 0
HasShown graphs pairs (step.Vector output values) = ShowsDifference graphs pairs output values
HasShown graphs pairs (step.Mismatch fails holds) = Unit {0}
HasShown graphs pairs (step.Tally kind have lack) = Unit {0}
HasShown graphs pairs (step.Cover kind from to refs) = Unit {0}

-- The tests of a ban in their order.
pub record IsValidBan (graphs : Graphs) (given : Given) (ban : Ban) : Type 0 where
  pub known : All (IsKnown graphs) ban.pairs
  pub ordered : AreOrdered ban.pairs
  pub names : AreNamesKnown graphs given ban.step
  pub rule : KeepsRule graphs given ban.pairs ban.step
  pub shown : HasShown graphs ban.pairs ban.step

-- each ban of a list is valid in view of the facts, and of the bans before it
abbrev pub AreValidBans : Graphs → List Decided → List Ban → Type 0
AreValidBans graphs facts bans = EachAt (λ k ban. IsValidBan graphs (given_of facts (take k bans)) ban) bans
