-- Conflicts, and the covers that they are resolved to.
use Rattle.std.proofs.Common.{◌≡◌, ◌≢◌, ℕ, ◌+◌, ◌<◌, List, ◌∷◌, length, get_or, take, All, Contains, Option, None, Some, IfSome, sym, ap, subst, ◌∙◌, inl, inr, arith}
use Rattle.std.proofs.lemmas.List.{get_or_default, take_more}
use Rattle.std.proofs.lemmas.Option.{same_Some, none-some}
use Rattle.std.proofs.lemmas.List.Elements.{All-contains, All-push, All-weaker}
use Rattle.circuits.specs.declared.port.Pair.{Pair}
use Rattle.circuits.specs.declared.port.PortKind.{PortKind}
use Rattle.circuits.specs.declared.port.PortKind.TheVariants.{Input, Output}
use Rattle.net_core.specs.Sides.{Graphs}
use Rattle.account_core.specs.declared.step.Ban.{Ban}
use Rattle.account_core.specs.Ports.{ports_in, IsKnown}
use Rattle.ban_book.specs.Covering.{Covers}
use Rattle.account_core.specs.Assigned.{IsPart}
use Rattle.ban_book.proofs.BlockListLemmas.{cons_more}
use Rattle.pair_domains.specs.Trails.{IsPairOf, ports_of}
use Rattle.pair_search.specs.declared.resolved.Resolved.{Resolved}
use Rattle.pair_search.specs.ConflictSets.{FitPorts}
use Rattle.pair_domains.specs.declared.entry.Entry.{Entry}
use Rattle.pair_search.specs.Named.{AreAllGathered, IsLeftOutOr}
use Rattle.pair_search.specs.Resolutions.{left_out}

-- a ban that is within a way and pairs is within it and more of them
pub covers_among : (bans : List Ban) (way : Pair) (few more : List Pair) (number : ℕ) → All (Contains more) few → Covers bans (way ∷ few) number → Covers bans (way ∷ more) number
covers_among bans way few more number stays is = record {
  kept = is.kept;
  within = λ d. record { among = λ k e below. cons_more way few more _ stays ((is.within d).among k e below) };
}

-- a way that isn't the one that is resolved on isn't left out
pub not_resolved : (resolved : Option Resolved) (way : Pair) → IfSome resolved (λ it. it.way ≢ way) → left_out resolved ≡ Some way → ⊥
not_resolved None way apart same = none-some way same
not_resolved (Some it) way apart same = apart (same_Some it.way way same)

pub not_left_out : (skipped : Option Pair) (way : Pair) (P : Type 0) → (skipped ≡ Some way → ⊥) → IsLeftOutOr skipped way P → P
not_left_out skipped way P apart (inl same) = absurd (apart same)
not_left_out skipped way P apart (inr is) = is

-- the ban that is resolved on is within more pairs
pub resolved_among : (bans : List Ban) (few more : List Pair) (resolved : Option Resolved) → All (Contains more) few → IfSome resolved (λ it. Covers bans (it.way ∷ few) it.ban) → IfSome resolved (λ it. Covers bans (it.way ∷ more) it.ban)
resolved_among bans few more None stays covers = covers
resolved_among bans few more (Some it) stays covers = covers_among bans it.way few more it.ban stays covers

-- a ban's pairs, as they are lent
pub ban_lent : (bans : List Ban) (pairs lent : List Pair) (number : ℕ) (d : Ban) → Covers bans pairs number → lent ≡ (get_or bans number d).pairs → All (Contains pairs) lent
ban_lent bans pairs lent number d covers is = subst (All (Contains pairs)) (sym is) (covers.within d).among

pub covers_lent : (bans : List Ban) (pairs lent : List Pair) (number : ℕ) (d : Ban) → number < length bans → lent ≡ (get_or bans number d).pairs → All (Contains pairs) lent → Covers bans pairs number
covers_lent bans pairs lent number d below is all = record {
  kept = below;
  within = λ e. record { among = subst (All (Contains pairs)) (is ∙ ap (λ (b : Ban). b.pairs) (get_or_default bans number d e below)) all };
}

-- as many ports of a kind as the domains have
pub first_ports : (graphs : Graphs) (n m : ℕ) (kind : PortKind) → FitPorts graphs n m → ports_in graphs.first kind ≡ ports_of n m kind
first_ports graphs n m Input fit = fit.inputs_are
first_ports graphs n m Output fit = fit.outputs_are

pub second_ports : (graphs : Graphs) (n m : ℕ) (kind : PortKind) → FitPorts graphs n m → ports_in graphs.second kind ≡ ports_of n m kind
second_ports graphs n m Input fit = sym fit.many.inputs ∙ fit.inputs_are
second_ports graphs n m Output fit = sym fit.many.outputs ∙ fit.outputs_are

pub known_of : (graphs : Graphs) (n m : ℕ) (pair : Pair) → FitPorts graphs n m → IsPairOf n m pair → IsKnown graphs pair
known_of graphs n m pair fit is = record {
  from = omega (arith, is.from, first_ports graphs n m pair.kind fit);
  to = omega (arith, is.to, second_ports graphs n m pair.kind fit);
}

-- Some of the assigned pairs, among them the first of others.
pub record IsAdding (assigned now first : List Pair) : Type 0 where
  pub part : IsPart assigned now
  pub among : All (Contains now) first

pub adding_more : (assigned few more pairs : List Pair) (index : ℕ) (d : Pair) → index < length pairs → IsAdding assigned few (take index pairs) → IsPart assigned more → All (Contains more) few → Contains more (get_or pairs index d) → IsAdding assigned more (take (index + 1) pairs)
adding_more assigned few more pairs index d below is part stays here = record {
  part = part;
  among = subst (All (Contains more)) (sym (take_more pairs index d below)) (All-push (Contains more) (take index pairs) (get_or pairs index d) (All-weaker (Contains few) (Contains more) (λ x there. All-contains (Contains more) few x stays there) (take index pairs) is.among) here);
}

-- what is gathered, as it is lent
pub gathered_as : (es : List Entry) (skipped other : Option Pair) (bans bans_now : List Ban) (ways ways_now pairs pairs_now : List Pair) (noted noted_now : List (Option ℕ)) → skipped ≡ other → bans ≡ bans_now → ways ≡ ways_now → pairs ≡ pairs_now → noted ≡ noted_now → AreAllGathered bans es ways skipped pairs noted → AreAllGathered bans_now es ways_now other pairs_now noted_now
gathered_as es skipped other bans bans_now ways ways_now pairs pairs_now noted noted_now one two three four five is =
    subst (λ (s : Option Pair). AreAllGathered bans_now es ways_now s pairs_now noted_now) one (subst (λ (bs : List Ban). AreAllGathered bs es ways_now skipped pairs_now noted_now) two (subst (λ (ws : List Pair). AreAllGathered bans es ws skipped pairs_now noted_now) three (subst (λ (ps : List Pair). AreAllGathered bans es ways skipped ps noted_now) four (subst (AreAllGathered bans es ways skipped pairs) five is))))
