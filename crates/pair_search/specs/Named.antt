-- The assigned pairs that the reasons of deletions name (nodes of the implication graph of Marques-Silva and Sakallah,
-- GRASP, 1999).
use Rattle.std.specs.Prelude.{◌≡◌, ◌⊎◌, ℕ, ◌*◌, ◌<◌, List, ◌∷◌, All, Contains, Option, None, Some}
use Rattle.std.specs.List.{AllZip}
use Rattle.circuits.specs.declared.port.Pair.{Pair}
use Rattle.account_core.specs.declared.step.Ban.{Ban}
use Rattle.account_core.specs.Covers.{IsImpossible}
use Rattle.account_core.specs.Ports.{Clash}
use Rattle.ban_book.specs.Covering.{Covers}
use Rattle.ban_book.specs.Ways.{nth_way}
use Rattle.pair_domains.specs.declared.entry.Entry.{Entry}
use Rattle.pair_domains.specs.declared.entry.Fate.TheVariants.{Deleted}
use Rattle.pair_domains.specs.declared.entry.Reason.{Reason}
use Rattle.pair_domains.specs.declared.entry.Reason.TheVariants as reason
use Rattle.pair_domains.specs.Trails.{Domained, ports_of}
use Rattle.account_core.specs.declared.ports.Port.{Port}

-- a deleted pair's reason is so, and the pairs that it names are among these
abbrev pub AreNamed : List Ban → List Pair → Pair → Reason → Type 0
AreNamed bans pairs pair (reason.Clash with) = Contains pairs with × Clash with pair
AreNamed bans pairs pair (reason.Ban number) = Covers bans (pair ∷ pairs) number
AreNamed bans pairs pair (reason.Mismatch with fails holds) = Contains pairs with

-- a pair that can't stand, with the reason why
abbrev pub deleted : Pair → Reason → Entry
deleted pair why = record { pair = pair; fate = Deleted why }

-- a pair is deleted, and what its reason names is among these
abbrev pub IsNamedIn : List Ban → List Entry → List Pair → Pair → Type 0
IsNamedIn bans entries pairs pair = (why : Reason) × Contains entries (deleted pair why) × AreNamed bans pairs pair why

-- of the ways of a port, where a circuit has this many such ports, each has a property
abbrev pub EachWay : Port → ℕ → (Pair → Type 0) → Type 0
EachWay port count P = (number : ℕ) → number < 2 * count → P (nth_way port.side port.kind port.number number)

-- a way is impossible beside pairs, or it is deleted, and what its reason names is among them; or a ban that is noted
-- has no other pairs than it and them
abbrev pub IsGathered : List Ban → List Entry → List Pair → Pair → Option ℕ → Type 0
IsGathered bans entries pairs way None = IsImpossible pairs way ⊎ IsNamedIn bans entries pairs way
IsGathered bans entries pairs way (Some number) = Covers bans (way ∷ pairs) number

-- a way is the one that is left out, or has a property
abbrev pub IsLeftOutOr : Option Pair → Pair → Type 0 → Type 0
IsLeftOutOr skipped way P = (skipped ≡ Some way) ⊎ P

-- a port is one of two circuits'
abbrev pub IsPortOf : Domained → Port → Type 0
IsPortOf domains port = port.number < ports_of domains.inputs domains.outputs port.kind

-- each way of a port but the one that is left out is deleted, and what its reason names is among these pairs
abbrev pub AreWaysNamed : List Ban → Domained → Port → Option Pair → List Pair → Type 0
AreWaysNamed bans domains port skipped pairs =
    EachWay port (ports_of domains.inputs domains.outputs port.kind)
    (λ way. IsLeftOutOr skipped way (IsNamedIn bans domains.entries pairs way))

-- so is each of some ways
abbrev pub AreAllNamed : List Ban → List Entry → List Pair → Option Pair → List Pair → Type 0
AreAllNamed bans entries ways skipped pairs = All (λ way. IsLeftOutOr skipped way (IsNamedIn bans entries pairs way)) ways

-- each of some ways but the one that is left out is impossible beside pairs, or deleted as those are, or has a noted
-- ban
abbrev pub AreAllGathered : List Ban → List Entry → List Pair → Option Pair → List Pair → List (Option ℕ) → Type 0
AreAllGathered bans entries ways skipped pairs noted =
    AllZip (λ way number. IsLeftOutOr skipped way (IsGathered bans entries pairs way number)) ways noted
