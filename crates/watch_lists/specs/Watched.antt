-- Two watched literals of each clause, and how they fit a trail (Moskewicz and others, Chaff, 2001).
use Rattle.std.specs.Prelude.{◌≡◌, ℕ, ◌*◌, ◌/◌, ◌<◌, ◌≤◌, true, List, [], ◌∷◌, ◌++◌, length, All, slice_index_or, ◌⊎◌}
use Rattle.cnf_core.specs.declared.literal.SatLit.{SatLit}
use Rattle.cnf_core.specs.declared.effect.Effect.TheVariants.{Neither}
use Rattle.cnf_core.specs.Clauses.{clause_at, opposite, AreKnown}
use Rattle.cnf_core.specs.Derivations.{effect_of, is_true}
use Rattle.trail_core.specs.declared.assigned.Assigned.{Assigned}
use Rattle.trail_core.specs.Trails.{IsTrail, Trailing, entry_at}
use Rattle.watch_lists.specs.Lists.{AreListed, HaveRoom, IsAttached, IsAmongFirst, Listed, list_of, literal_at, numbered, partner}

-- The clauses over this many variables, and the two watches of each.
pub record Watching : Type 0 where
  pub variables : ℕ
  pub clauses : List (List SatLit)
  pub watches : List SatLit

-- a watch of a clause that isn't attached
abbrev pub unattached_watch : List SatLit → SatLit
unattached_watch clause = slice_index_or clause 0 (numbered 0)

-- one clause more, which isn't attached
abbrev pub with_clause : List SatLit → Watching → Watching
with_clause clause watching = record watching {
  clauses = watching.clauses ++ clause ∷ [];
  watches = watching.watches ++ unattached_watch clause ∷ unattached_watch clause ∷ [];
}

-- A literal is true, at a level that isn't greater.
pub record IsTrueBy (entries : List Assigned) (literal : SatLit) (level : ℕ) : Type 0 where
  pub at : ℕ
  pub within : at < length entries
  pub is : (entry_at entries at).literal.0 ≡ literal.0
  pub low : (entry_at entries at).level ≤ level

-- where a watched literal is false at a walked place, the other one of its clause is true at a level that isn't greater
abbrev pub IsWatched : List SatLit → List Assigned → ℕ → ℕ → Type 0
IsWatched watches entries walked s = (j : ℕ)
    → j < walked
    → j < length entries
    → (entry_at entries j).literal.0 ≡ (opposite (literal_at watches s)).0
    → IsTrueBy entries (literal_at watches (partner s)) (entry_at entries j).level

-- the watches fit a trail
pub record Fits (watching : Watching) (trail : Trailing) : Type 0 where
  pub variables : trail.variables ≡ watching.variables
  pub watched : (s : ℕ)
      → s < length watching.watches
      → IsAttached watching.watches s
      → IsWatched watching.watches trail.entries trail.walked s

-- no clause from this number on is attached
abbrev pub AreUnattachedFrom : Watching → ℕ → Type 0
AreUnattachedFrom watching from = (id : ℕ) → from ≤ id → IsAttached watching.watches (2 * id) → ⊥

-- no clause is attached
abbrev pub AreUnattached : Watching → Type 0
AreUnattached watching = AreUnattachedFrom watching 0

-- what isn't walked is of the present level
pub record IsPresent (trail : Trailing) : Type 0 where
  pub present : (k : ℕ) → trail.walked ≤ k → k < length trail.entries → (entry_at trail.entries k).level ≡ trail.level

-- A clause has a literal that is true at level 0.
pub record IsRooted (entries : List Assigned) (clause : List SatLit) : Type 0 where
  pub at : ℕ
  pub within : at < length entries
  pub there : is_true clause (entry_at entries at).literal ≡ true
  pub lowest : (entry_at entries at).level ≡ 0

-- a clause is attached, or has a literal that is true at level 0
abbrev pub IsCovered : Watching → List Assigned → ℕ → Type 0
IsCovered watching entries id = IsAttached watching.watches (2 * id) ⊎ IsRooted entries (clause_at watching.clauses id)

-- no attached clause is a conflict or leaves a single literal
pub record AreQuiet (watching : Watching) (made : List SatLit) : Type 0 where
  pub quiet : (id : ℕ)
      → id < length watching.clauses
      → IsAttached watching.watches (2 * id)
      → effect_of made (clause_at watching.clauses id) ≡ Neither

-- The clauses stay, and what is attached stays so.
pub record IsRewatched (old new : Watching) : Type 0 where
  pub variables : new.variables ≡ old.variables
  pub clauses : new.clauses ≡ old.clauses
  pub attached : (id : ℕ) → id < length old.clauses → IsAttached old.watches (2 * id) → IsAttached new.watches (2 * id)

-- the watches of attached clauses are among their literals
pub record AreOfClauses (clauses : List (List SatLit)) (watches : List SatLit) : Type 0 where
  pub size : length watches ≡ 2 * length clauses
  pub of : (s : ℕ)
      → s < length watches
      → IsAttached watches s
      → is_true (clause_at clauses (s / 2)) (literal_at watches s) ≡ true

-- The invariant of all watches.
pub record AreKept (variables : ℕ) (clauses : List (List SatLit)) (watches : List SatLit) (lists : List Listed) : Type 0 where
  pub lists_are : length lists ≡ 2 * variables
  pub known : All (AreKnown variables) clauses
  pub of_clauses : AreOfClauses clauses watches
  pub listed : AreListed watches lists
  pub room : HaveRoom clauses lists

-- The watches fit a trail.
pub record IsReady (clauses : List (List SatLit)) (watches : List SatLit) (lists : List Listed) (trail : Trailing) : Type 0 where
  pub kept : AreKept trail.variables clauses watches lists
  pub is_trail : IsTrail trail
  pub present : IsPresent trail
  pub watched : (s : ℕ)
      → s < length watches
      → IsAttached watches s
      → IsWatched watches trail.entries trail.walked s

-- The list of a false literal is walked, which is the opposite of that at the next place; its first n watches are left.
pub record IsWalking (clauses : List (List SatLit)) (watches : List SatLit) (lists : List Listed) (trail : Trailing)
    (literal : SatLit) (left : ℕ) : Type 0 where
  pub lists_are : length lists ≡ 2 * trail.variables
  pub known : All (AreKnown trail.variables) clauses
  pub of_clauses : AreOfClauses clauses watches
  pub listed : AreListed watches lists
  pub room : HaveRoom clauses lists
  pub is_trail : IsTrail trail
  pub present : IsPresent trail
  pub there : trail.walked < length trail.entries
  pub falsity : (entry_at trail.entries trail.walked).literal.0 ≡ (opposite literal).0
  pub literal_known : literal.0 < length lists
  pub few : left ≤ length (list_of lists literal.0)
  pub watched : (s : ℕ)
      → s < length watches
      → IsAttached watches s
      → IsWatched watches trail.entries trail.walked s
  pub seen : (s : ℕ)
      → s < length watches
      → IsAttached watches s
      → literal_at watches s ≡ literal
      → IsAmongFirst left (list_of lists literal.0) s ⊎ IsTrueBy trail.entries (literal_at watches (partner s)) trail.level

-- what is attached stays so
abbrev pub StayAttached : List SatLit → List SatLit → Type 0
StayAttached old new = (s : ℕ) → s < length old → IsAttached old s → IsAttached new s
