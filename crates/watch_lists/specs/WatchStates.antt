-- What a clause does on a trail, by one of its literals.
use Rattle.std.specs.Prelude.{◌≡◌, ◌≢◌, ℕ, true, false, List, ◌⊎◌}
use Rattle.cnf_core.specs.declared.literal.SatLit.{SatLit}
use Rattle.cnf_core.specs.declared.effect.Effect.TheVariants.{Makes}
use Rattle.cnf_core.specs.declared.effect.Effect.TheVariants.{Conflict as AllFalse}
use Rattle.cnf_core.specs.Derivations.{effect_of, is_false, is_true}
use Rattle.trail_core.specs.Trails.{IsFree, Trailing, literals, with_assigned}
use Rattle.watch_lists.specs.declared.watch_choice.WatchState.{WatchState}
use Rattle.watch_lists.specs.declared.watch_choice.WatchState.TheVariants.{Satisfied, Replacement, Unit, Conflict}

-- A literal of a clause that isn't false and isn't this other one.
pub record IsOtherNotFalse (made clause : List SatLit) (other literal : SatLit) : Type 0 where
  pub there : is_true clause literal ≡ true
  pub not_false : is_false made literal ≡ false
  pub differs : literal.0 ≢ other.0

-- a literal is false, or is this other one
abbrev pub IsFalseOrOther : List SatLit → SatLit → SatLit → Type 0
IsFalseOrOther made other literal = (is_false made literal ≡ true) ⊎ (other.0 ≡ literal.0)

-- it is neither
abbrev pub IsNeither : List SatLit → SatLit → SatLit → Type 0
IsNeither made other literal = (is_false made literal ≡ false) × (literal.0 ≢ other.0)

-- A clause has this literal and another one, which is false.
pub record IsHalfFalse (made clause : List SatLit) (other : SatLit) : Type 0 where
  pub falsified : SatLit
  pub there : is_true clause falsified ≡ true
  pub fails : is_false made falsified ≡ true
  pub differs : falsified.0 ≢ other.0
  pub other_there : is_true clause other ≡ true

-- All literals but one are false, and that one is unassigned.
pub record IsLeft (trail : Trailing) (clause : List SatLit) (literal : SatLit) : Type 0 where
  pub makes : effect_of (literals trail.entries) clause ≡ Makes literal
  pub free : IsFree trail literal

-- a clause's other watched literal is true, another can be watched, it is a unit, or it is a conflict
abbrev pub IsWatchState : Trailing → List SatLit → SatLit → WatchState → Type 0
IsWatchState trail clause other Satisfied = is_true (literals trail.entries) other ≡ true
IsWatchState trail clause other (Replacement literal) = IsOtherNotFalse (literals trail.entries) clause other literal
IsWatchState trail clause other Unit = IsLeft trail clause other
IsWatchState trail clause other Conflict = effect_of (literals trail.entries) clause ≡ AllFalse

-- The watch stays, since the other one is true.
pub record IsSatisfied (old new : Trailing) (other falsified literal : SatLit) : Type 0 where
  pub same : new ≡ old
  pub stays : literal ≡ falsified
  pub other_true : is_true (literals old.entries) other ≡ true

-- The watch stays, and the other one was made true.
pub record IsMadeBy (old new : Trailing) (clause : List SatLit) (id : ℕ) (other falsified literal : SatLit) : Type 0 where
  pub assigned : new ≡ with_assigned old other id
  pub stays : literal ≡ falsified
  pub left : IsLeft old clause other

-- The watch moves to a literal that isn't false.
pub record IsMovedTo (old new : Trailing) (clause : List SatLit) (other literal : SatLit) : Type 0 where
  pub same : new ≡ old
  pub replacement : IsOtherNotFalse (literals old.entries) clause other literal

-- what is watched in place of a literal that became false
abbrev pub IsTarget : Trailing → Trailing → List SatLit → ℕ → SatLit → SatLit → SatLit → Type 0
IsTarget old new clause id other falsified literal =
    IsSatisfied old new other falsified literal
    ⊎ (IsMadeBy old new clause id other falsified literal ⊎ IsMovedTo old new clause other literal)
