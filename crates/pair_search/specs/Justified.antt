-- That what became of each pair follows from what stands before it (the implication graph of Marques-Silva and
-- Sakallah, GRASP, 1999).
use Rattle.std.specs.Prelude.{ℕ, ⊤, List, take, Some}
use Rattle.circuits.specs.declared.port.Pair.{Pair}
use Rattle.circuits.specs.Literals.{EachAt}
use Rattle.net_core.specs.Sides.{Graphs}
use Rattle.net_core.specs.declared.graphs.Side.{Side}
use Rattle.account_core.specs.declared.step.Ban.{Ban}
use Rattle.account_core.specs.Tallies.{port_of}
use Rattle.pair_domains.specs.declared.entry.Entry.{Entry}
use Rattle.pair_domains.specs.declared.entry.Cause.TheVariants.{Choice, LastWay}
use Rattle.pair_domains.specs.declared.entry.Fate.{Fate}
use Rattle.pair_domains.specs.declared.entry.Fate.TheVariants.{Assigned, Deleted}
use Rattle.pair_domains.specs.Trails.{Domained, IsDeleted, assigned_in, ports_of}
use Rattle.pair_search.specs.ConflictSets.{FitPorts}
use Rattle.pair_search.specs.Named.{AreNamed, EachWay, IsLeftOutOr}

-- what became of a pair follows: a choice from nothing, the last way of a port from the deletions of all others, and a
-- deletion from the assigned pairs that its reason names
abbrev pub IsJustified : ℕ → ℕ → List Ban → List Entry → Pair → Fate → Type 0
IsJustified inputs outputs bans before pair (Assigned Choice) = ⊤
IsJustified inputs outputs bans before pair (Assigned (LastWay side)) =
    EachWay (port_of side pair) (ports_of inputs outputs pair.kind) (λ way. IsLeftOutOr (Some pair) way (IsDeleted before way))
IsJustified inputs outputs bans before pair (Deleted why) = AreNamed bans (assigned_in before) pair why

-- Each entry follows from those before it.
pub record AreJustified (inputs outputs : ℕ) (bans : List Ban) (entries : List Entry) : Type 0 where
  pub each : EachAt (λ place entry. IsJustified inputs outputs bans (take place entries) entry.pair entry.fate) entries

-- what became of each of two circuits' pairs follows from what stands before it
abbrev pub IsJustifiedTrail : List Ban → Domained → Type 0
IsJustifiedTrail bans domains = AreJustified domains.inputs domains.outputs bans domains.entries

-- The pairs are those of two circuits, and what became of each follows from what stands before it.
pub record IsTrail (graphs : Graphs) (bans : List Ban) (domains : Domained) : Type 0 where
  pub fit : FitPorts graphs domains.inputs domains.outputs
  pub justified : IsJustifiedTrail bans domains
