-- Pairs that are settled one after the other: each is deleted, or nothing excludes it beside the assigned ones.
use Rattle.std.specs.Prelude.{◌⊎◌, ℕ, List, ◌∷◌, Option, Result, IfNone, IfOk, IfSome}
use Rattle.circuits.specs.declared.port.Pair.{Pair}
use Rattle.account_core.specs.Covers.{IsImpossible}
use Rattle.account_core.specs.declared.step.Ban.{Ban}
use Rattle.ban_book.specs.Covering.{Covers}
use Rattle.ban_book.specs.Shown.{IsShownBan}
use Rattle.pair_domains.specs.declared.entry.Fate.TheVariants.{Deleted}
use Rattle.pair_domains.specs.Trails.{Domained, IsDeleted, assigned_in}
use Rattle.pair_search.specs.Grounded.{IsGrounded}
use Rattle.pair_search.specs.Justified.{IsTrail}
use Rattle.pair_search.specs.Named.{AreNamed}
use Rattle.class_refine.specs.declared.grounds.Grounds.{Grounds}
use Rattle.class_refine.specs.declared.settling.Exclusion.{Exclusion}
use Rattle.class_refine.specs.declared.settling.Exclusion.TheVariants as exclusion
use Rattle.class_refine.specs.Rows.{AreGrounds, AreInputsOf, ShowNothingAt, decided}
use Rattle.class_refine.specs.Stable.{AreClean, HaveNoBan, HaveNoSwapMismatch}
use Rattle.class_refine.specs.Refining.{Refines}

-- The grounds show nothing of the assigned pairs, of which they have the inputs'; nor is a ban within them.
pub record MaySettle (grounds : Grounds) (bans : List Ban) (domains : Domained) : Type 0 where
  pub are : AreGrounds grounds
  pub inputs_are : AreInputsOf (assigned_in domains.entries) grounds.inputs.now
  pub no_facts : ShowNothingAt grounds.graphs.now (decided grounds) grounds.inputs.now (assigned_in domains.entries)
  pub no_swap : HaveNoSwapMismatch grounds.graphs.now (decided grounds) (assigned_in domains.entries)
  pub no_ban : HaveNoBan bans (assigned_in domains.entries)
  pub trail : IsTrail grounds.graphs.now bans domains

-- A pair clashes with no assigned one, and nothing excludes it beside them.
pub record IsClear (grounds : Grounds) (bans : List Ban) (assigned : List Pair) (pair : Pair) : Type 0 where
  pub possible : IsImpossible assigned pair → ⊥
  pub clean : AreClean grounds.graphs.now (decided grounds) bans (pair ∷ assigned)

-- a reason that stands excludes a pair beside the assigned ones, or a ban that facts show
abbrev pub Excludes : Grounds → List Ban → List Pair → Pair → Exclusion → Type 0
Excludes grounds bans assigned pair (exclusion.Known why) =
    AreNamed bans assigned pair why × IsGrounded grounds.graphs.now (decided grounds) pair (Deleted why)
Excludes grounds bans assigned pair (exclusion.Shown ban) = IsShownBan grounds.graphs.now (decided grounds) (pair ∷ assigned) ban

-- a pair is deleted, or clear
abbrev pub IsSettled : Grounds → List Ban → Domained → Pair → Type 0
IsSettled grounds bans domains pair = IsDeleted domains.entries pair ⊎ IsClear grounds bans (assigned_in domains.entries) pair

-- No ban is within the assigned pairs, what was settled is, and so are these pairs.
pub record Settled (grounds : Grounds) (bans more : List Ban) (before after : Domained) (these : Pair → Type 0) : Type 0 where
  pub no_ban : HaveNoBan more (assigned_in after.entries)
  pub kept : (pair : Pair) → IsSettled grounds bans before pair → IsSettled grounds more after pair
  pub settled : (pair : Pair) → these pair → IsSettled grounds more after pair

-- What settling pairs does: they are settled, unless a ban is answered that is within the assigned pairs.
pub record Settles {E : Type 0} (grounds : Grounds) (bans more : List Ban) (before after : Domained) (these : Pair → Type 0)
    (result : Result (Option ℕ) E) : Type 0 where
  pub refines : Refines grounds.graphs.now (decided grounds) bans more before after
  pub settled : IfOk result (λ dead. IfNone dead (Settled grounds bans more before after these))
  pub dead : IfOk result (λ dead. IfSome dead (Covers more (assigned_in after.entries)))
