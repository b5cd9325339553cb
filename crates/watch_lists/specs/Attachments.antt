-- How a clause can be attached on a trail.
use Rattle.std.specs.Prelude.{◌≡◌, ◌≢◌, ℕ, ◌<◌, true, false, List, length, ◌⊎◌}
use Rattle.cnf_core.specs.declared.literal.SatLit.{SatLit}
use Rattle.cnf_core.specs.declared.effect.Effect.TheVariants.{Makes}
use Rattle.cnf_core.specs.declared.effect.Effect.TheVariants.{Conflict as AllFalse}
use Rattle.cnf_core.specs.Clauses.{opposite, variable_of}
use Rattle.cnf_core.specs.Derivations.{effect_of, is_false, is_true}
use Rattle.trail_core.specs.declared.assigned.Assigned.{Assigned}
use Rattle.trail_core.specs.Trails.{IsFree, IsPlace, Trailing, entry_at, literals, with_assigned}
use Rattle.watch_lists.specs.declared.watch_choice.Attachment.{Attachment}
use Rattle.watch_lists.specs.declared.watch_choice.Attachment.TheVariants.{Two, Rooted, Conflict}
use Rattle.watch_lists.specs.Watched.{IsTrueBy, IsRooted}

-- A literal of a clause that isn't false.
pub record IsNotFalseOf (made clause : List SatLit) (literal : SatLit) : Type 0 where
  pub there : is_true clause literal ≡ true
  pub not_false : is_false made literal ≡ false

-- A variable was assigned at the present level.
pub record IsAtTop (trail : Trailing) (variable : ℕ) : Type 0 where
  pub place : ℕ
  pub is_place : IsPlace trail.entries variable place
  pub level : (entry_at trail.entries place).level ≡ trail.level

-- it wasn't
abbrev pub IsNotAtTop : Trailing → ℕ → Type 0
IsNotAtTop trail variable = (place : ℕ)
    → IsPlace trail.entries variable place
    → (entry_at trail.entries place).level ≢ trail.level

-- A literal of a clause, other than `first`, that was assigned at the present level.
pub record IsOtherOfLevel (trail : Trailing) (clause : List SatLit) (first literal : SatLit) : Type 0 where
  pub there : is_true clause literal ≡ true
  pub differs : literal.0 ≢ first.0
  pub top : IsAtTop trail (variable_of literal)

-- a literal is this one, or wasn't assigned at the present level
abbrev pub IsElsewhere : Trailing → SatLit → SatLit → Type 0
IsElsewhere trail first literal = literal.0 ≢ first.0 → IsNotAtTop trail (variable_of literal)

-- above level 0, a literal of a clause became false at the present level
pub record IsFalseAtTop (trail : Trailing) (clause : List SatLit) : Type 0 where
  pub place : ℕ
  pub within : place < length trail.entries
  pub level : (entry_at trail.entries place).level ≡ trail.level
  pub there : is_true clause (opposite (entry_at trail.entries place).literal) ≡ true

-- above level 0 a clause has a literal that the present level made false
abbrev pub IsReached : Trailing → List SatLit → Type 0
IsReached trail clause = 0 < trail.level → IsFalseAtTop trail clause

-- A literal is true, or was made true by a clause.
abbrev pub IsMade : Trailing → Trailing → SatLit → ℕ → Type 0
IsMade old new literal id =
    ((new ≡ old) × (is_true (literals old.entries) literal ≡ true))
    ⊎ (IsFree old literal × (new ≡ with_assigned old literal id))

-- where one of two literals is false, the other one is true at a level that isn't greater
abbrev pub IsGuarded : List Assigned → SatLit → SatLit → Type 0
IsGuarded entries literal other = (j : ℕ)
    → j < length entries
    → (entry_at entries j).literal.0 ≡ (opposite literal).0
    → IsTrueBy entries other (entry_at entries j).level

-- Two literals of a clause by which it can be watched.
pub record ArePair (entries : List Assigned) (clause : List SatLit) (first second : SatLit) : Type 0 where
  pub first_there : is_true clause first ≡ true
  pub second_there : is_true clause second ≡ true
  pub differ : first.0 ≢ second.0
  pub first_guarded : IsGuarded entries first second
  pub second_guarded : IsGuarded entries second first

-- two of a clause's literals can watch it, or one is true for good, or all are false
abbrev pub IsAttachment : Trailing → Trailing → List SatLit → Attachment → Type 0
IsAttachment old new clause (Two first second) = ArePair new.entries clause first second
IsAttachment old new clause Rooted = IsRooted new.entries clause
IsAttachment old new clause Conflict = (effect_of (literals old.entries) clause ≡ AllFalse) × (new ≡ old)

-- a trail stays, or what a clause leaves was assigned by it
abbrev pub IsSettled : Trailing → Trailing → List SatLit → ℕ → Type 0
IsSettled old new clause id = (new ≡ old) ⊎ ((literal : SatLit)
    × (effect_of (literals old.entries) clause ≡ Makes literal)
    × (new ≡ with_assigned old literal id))
