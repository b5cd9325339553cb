-- Trails: assigned literals in order, with levels and reasons (the implication graph of Marques-Silva and Sakallah,
-- GRASP, 1999; the trail of Eén and Sörensson, MiniSat, 2003).
use Rattle.std.specs.Prelude.{◌≡◌, ◌≢◌, ℕ, ◌+◌, ◌-◌, ◌<◌, ◌≤◌, ◌++◌, ◌∷◌, [], Bool, true, false, List, length, map, take, filter, min, nat_le, Option, None}
use Rattle.std.specs.Prelude.{Some, count_by, is_none, slice_index_or, if◌then◌else◌}
use Rattle.cnf_core.specs.declared.literal.SatLit.{SatLit}
use Rattle.cnf_core.specs.Clauses.{variable_of}
use Rattle.cnf_core.specs.Derivations.{is_true, is_false}
use Rattle.trail_core.specs.declared.assigned.Assigned.{Assigned}

-- What was assigned, in order, over n variables; the present level; and how many literals were walked.
pub record Trailing : Type 0 where
  pub variables : ℕ
  pub entries : List Assigned
  pub level : ℕ
  pub walked : ℕ

-- stands for what isn't on a trail
abbrev pub nothing : Assigned
nothing = record { literal = record { 0 = 0 }; level = 0; reason = None }

-- what stands at a place
abbrev pub entry_at : List Assigned → ℕ → Assigned
entry_at entries place = slice_index_or entries place nothing

-- what is true by a trail, in the order in which it was assigned
abbrev pub literals : List Assigned → List SatLit
literals entries = map (λ entry. entry.literal) entries

-- how many decisions there are
abbrev pub decisions : List Assigned → ℕ
decisions entries = count_by (λ entry. is_none entry.reason) entries

-- whether a literal is true or false where these are true
abbrev pub value_in : List SatLit → SatLit → Option Bool
value_in made literal = if is_true made literal then Some true else if is_false made literal then Some false else None

-- What each trail is: no variable is assigned twice, and a level is the number of decisions so far.
pub record IsTrail (trail : Trailing) : Type 0 where
  pub known : (k : ℕ) → k < length trail.entries → variable_of (entry_at trail.entries k).literal < trail.variables
  pub distinct : (j k : ℕ)
      → j < k
      → k < length trail.entries
      → variable_of (entry_at trail.entries j).literal ≢ variable_of (entry_at trail.entries k).literal
  pub levels : (k : ℕ)
      → k < length trail.entries
      → (entry_at trail.entries k).level ≡ decisions (take (k + 1) trail.entries)
  pub level : trail.level ≡ decisions trail.entries
  pub walked : trail.walked ≤ length trail.entries

-- a literal of this variable stands at a place
pub record IsPlace (entries : List Assigned) (variable place : ℕ) : Type 0 where
  pub within : place < length entries
  pub there : variable_of (entry_at entries place).literal ≡ variable

-- a literal's variable is known and unassigned
pub record IsFree (trail : Trailing) (literal : SatLit) : Type 0 where
  pub known : variable_of literal < trail.variables
  pub unassigned : value_in (literals trail.entries) literal ≡ None

-- the first n literals stand before the last ones, whose level is greater
pub record IsCutAt (level : ℕ) (entries : List Assigned) (kept : ℕ) : Type 0 where
  pub within : kept ≤ length entries
  pub dropped : (k : ℕ) → kept ≤ k → k < length entries → level < (entry_at entries k).level
  pub last : 0 < kept → (entry_at entries (kept - 1)).level ≤ level

-- one literal more, as a decision: it begins a level
abbrev pub with_decision : Trailing → SatLit → Trailing
with_decision trail literal = record trail {
  entries = trail.entries ++ record { literal = literal; level = trail.level + 1; reason = None } ∷ [];
  level = trail.level + 1;
}

-- one literal more at the present level, by this clause
abbrev pub with_assigned : Trailing → SatLit → ℕ → Trailing
with_assigned trail literal reason = record trail {
  entries = trail.entries ++ record { literal = literal; level = trail.level; reason = Some reason } ∷ [];
}

-- A trail after going back to a level: what has a greater level was taken off.
pub record IsBack (old back : Trailing) (level : ℕ) : Type 0 where
  pub variables : back.variables ≡ old.variables
  pub entries : back.entries ≡ filter (λ entry. nat_le entry.level level) old.entries
  pub front : back.entries ≡ take (length back.entries) old.entries
  pub level_is : back.level ≡ level
  pub walked : back.walked ≡ min old.walked (length back.entries)
