-- What holds of a trail on which literals are assigned because clauses leave nothing else (unit propagation; Marques-
-- Silva and Sakallah, GRASP, 1999).
use Rattle.std.specs.Prelude.{◌≡◌, ℕ, ◌<◌, ◌≤◌, List, length, take, All, Option, None, Some}
use Rattle.cnf_core.specs.declared.literal.SatLit.{SatLit}
use Rattle.cnf_core.specs.declared.effect.Effect.TheVariants.{Conflict, Makes, Neither}
use Rattle.cnf_core.specs.Clauses.{clause_at}
use Rattle.cnf_core.specs.Derivations.{effect_of}
use Rattle.trail_core.specs.declared.assigned.Assigned.{Assigned}
use Rattle.trail_core.specs.Trails.{Trailing, entry_at, literals}

-- no clause is a conflict or leaves a single literal: each has a true literal or two unassigned ones
abbrev pub IsQuiet : List (List SatLit) → List SatLit → Type 0
IsQuiet clauses made = All (λ clause. effect_of made clause ≡ Neither) clauses

-- the first n literals of a trail
abbrev pub before : List Assigned → ℕ → List SatLit
before entries place = take place (literals entries)

-- A clause leaves nothing but this literal where these are true.
pub record IsReason (clauses : List (List SatLit)) (made : List SatLit) (literal : SatLit) (id : ℕ) : Type 0 where
  pub there : id < length clauses
  pub makes : effect_of made (clause_at clauses id) ≡ Makes literal

-- All literals of a clause are false where these are true.
pub record IsConflict (clauses : List (List SatLit)) (made : List SatLit) (id : ℕ) : Type 0 where
  pub there : id < length clauses
  pub conflict : effect_of made (clause_at clauses id) ≡ Conflict

-- what stands at a place has a reason there, or is a decision that was made when no clause left a single literal
abbrev pub IsJustified : List (List SatLit) → List SatLit → SatLit → Option ℕ → Type 0
IsJustified clauses made literal (Some id) = IsReason clauses made literal id
IsJustified clauses made literal None = IsQuiet clauses made

-- Each literal of a trail is justified.
pub record IsSound (clauses : List (List SatLit)) (trail : Trailing) : Type 0 where
  pub justified : (k : ℕ)
      → k < length trail.entries
      → IsJustified clauses (before trail.entries k) (entry_at trail.entries k).literal (entry_at trail.entries k).reason

-- what was assigned has a reason: it is no decision
abbrev pub IsImplied : List (List SatLit) → List SatLit → SatLit → Option ℕ → Type 0
IsImplied clauses made literal (Some id) = IsReason clauses made literal id
IsImplied clauses made literal None = ⊥

-- Each literal that a trail has more than another was all that a clause left.
pub record AreImplied (clauses : List (List SatLit)) (old new : Trailing) : Type 0 where
  pub implied : (k : ℕ)
      → length old.entries ≤ k
      → k < length new.entries
      → IsImplied clauses (before new.entries k) (entry_at new.entries k).literal (entry_at new.entries k).reason

-- A trail has more literals, at the same level: none of them is a decision.
pub record IsGrown (old new : Trailing) : Type 0 where
  pub variables : new.variables ≡ old.variables
  pub level : new.level ≡ old.level
  pub longer : length old.entries ≤ length new.entries
  pub kept : take (length old.entries) new.entries ≡ old.entries
