-- What is learned from a conflict, and how far an analysis has come (Marques-Silva and Sakallah, GRASP, 1999).
use Rattle.std.specs.Prelude.{◌≡◌, ℕ, ◌<◌, ◌≤◌, ◌==◌, ◌&&◌, Bool, true, false, List, [], length, map, take, filter, reverse, replicate, All, Contains, None}
use Rattle.std.specs.Prelude.{count_by, if◌then◌else◌, nat_lt, ◌⊎◌}
use Rattle.circuits.specs.Literals.{bit}
use Rattle.cnf_core.specs.declared.literal.SatLit.{SatLit}
use Rattle.cnf_core.specs.declared.effect.Effect.TheVariants.{Neither}
use Rattle.cnf_core.specs.Clauses.{opposite, variable_of, AreKnown}
use Rattle.cnf_core.specs.Derivations.{effect_of, hint_fault, is_empty, is_true, repeats_variable, has_all}
use Rattle.trail_core.specs.declared.assigned.Assigned.{Assigned}
use Rattle.trail_core.specs.Trails.{Trailing, entry_at, literals}
use Rattle.learn_solver.specs.declared.conflict.Analysis.{Analysis}
use Rattle.learn_solver.specs.declared.conflict.LearnedClause.{LearnedClause}
use Rattle.watch_lists.specs.Propagations.{IsConflict, IsSound, before}

-- how many literals of the present level a learned clause keeps
abbrev pub kept_here : ℕ → ℕ
kept_here level = if level == 0 then 0 else 1

-- A clause has a literal that became false at this level.
pub record IsFalseAt (trail : Trailing) (clause : List SatLit) (level : ℕ) : Type 0 where
  pub place : ℕ
  pub within : place < length trail.entries
  pub level_there : (entry_at trail.entries place).level ≡ level
  pub there : is_true clause (opposite (entry_at trail.entries place).literal) ≡ true

-- A clause has a literal that became false at the present level, which is above the level to go back to, and, where
-- that isn't 0, one that became false there.
pub record IsAsserting (trail : Trailing) (clause : List SatLit) (level : ℕ) : Type 0 where
  pub last : 0 < trail.level → IsFalseAt trail clause trail.level
  pub lower : 0 < trail.level → level < trail.level
  pub reached : 0 < level → IsFalseAt trail clause level

-- What is learned: a clause without a repeated variable that the steps derive, and that has all the literals of none of
-- the clauses. It is empty at level 0. At each decision up to the level to go back to it left more than a single
-- literal.
pub record IsLearnedAs (clauses : List (List SatLit)) (trail : Trailing) (clause : List SatLit) (steps : List ℕ) (level : ℕ)
    : Type 0 where
  pub derived : hint_fault clauses (map opposite clause) steps ≡ None
  pub once : repeats_variable clause ≡ false
  pub known : AreKnown trail.variables clause
  pub fresh : All (λ other. has_all clause other ≡ false) clauses
  pub closing : trail.level ≡ 0 → clause ≡ []
  pub low : level ≤ trail.level
  pub not_single : (k : ℕ)
      → k < length trail.entries
      → (entry_at trail.entries k).reason ≡ None
      → (entry_at trail.entries k).level ≤ level
      → effect_of (before trail.entries k) clause ≡ Neither
  pub asserting : IsAsserting trail clause level

-- what was learned is right: its clause, the steps that derive it, and the level to go back to
abbrev pub IsLearned : List (List SatLit) → Trailing → LearnedClause → Type 0
IsLearned clauses trail learned = IsLearnedAs clauses trail learned.clause learned.steps.items learned.level

-- A clause all of whose literals are false, from which something can be learned: nothing is marked.
pub record CanAnalyse (clauses : List (List SatLit)) (trail : Trailing) (marked : List Bool) (id : ℕ) : Type 0 where
  pub clear : marked ≡ replicate trail.variables false
  pub known : All (AreKnown trail.variables) clauses
  pub filled : All (λ clause. is_empty clause ≡ false) clauses
  pub sound : IsSound clauses trail
  pub conflict : IsConflict clauses (literals trail.entries) id

-- whether an entry's variable is marked
abbrev pub is_marked : List Bool → Assigned → Bool
is_marked marked entry = bit marked (variable_of entry.literal)

-- whether the literal at a place is marked and of a lower level than the present one
abbrev pub is_lower : Trailing → List Bool → ℕ → Bool
is_lower trail marked place =
    is_marked marked (entry_at trail.entries place) && nat_lt (entry_at trail.entries place).level trail.level

-- how many of the first n literals are marked and of the present level
abbrev pub here_in : Trailing → List Bool → ℕ → ℕ
here_in trail marked place =
    count_by (λ entry. is_marked marked entry && (entry.level == trail.level)) (take place trail.entries)

-- the marked ones of the first n literals
abbrev pub kept_literals : List Assigned → List Bool → ℕ → List SatLit
kept_literals entries marked place = filter (λ literal. bit marked (variable_of literal)) (before entries place)

-- a variable's literal stands before a place
pub record HasPlace (entries : List Assigned) (place variable : ℕ) : Type 0 where
  pub at : ℕ
  pub early : at < place
  pub within : at < length entries
  pub there : variable_of (entry_at entries at).literal ≡ variable

-- so do those of all of a clause's variables
abbrev pub AreBefore : List Assigned → ℕ → List SatLit → Type 0
AreBefore entries place clause = All (λ literal. HasPlace entries place (variable_of literal)) clause

-- all of a clause's variables are marked
abbrev pub AreMarked : List Bool → List SatLit → Type 0
AreMarked marked clause = All (λ literal. bit marked (variable_of literal) ≡ true) clause

-- the literal of each marked variable is on the trail
abbrev pub AreOnTrail : List Assigned → List Bool → Type 0
AreOnTrail entries marked = (variable : ℕ) → bit marked variable ≡ true → HasPlace entries (length entries) variable

-- what was marked stays so
abbrev pub StayMarked : List Bool → List Bool → Type 0
StayMarked old new = (variable : ℕ) → bit old variable ≡ true → bit new variable ≡ true

-- from a place on, what was marked is what is marked
abbrev pub StayFrom : List Assigned → ℕ → List Bool → List Bool → Type 0
StayFrom entries place old new = (k : ℕ)
    → place ≤ k
    → k < length entries
    → is_marked new (entry_at entries k) ≡ is_marked old (entry_at entries k)

-- these are the marked ones of the first n places
pub record AreMarkedPlaces (marked : List Bool) (count : ℕ) (places : List ℕ) : Type 0 where
  pub below : All (λ place. place < count) places
  pub all : (place : ℕ) → place < count → bit marked place ≡ true → Contains places place

-- these are true: the marked ones of the first `top` literals, and no others but such as stand before a place
pub record IsLeft (entries : List Assigned) (marked : List Bool) (place top : ℕ) (made : List SatLit) : Type 0 where
  pub needed : (k : ℕ)
      → k < top
      → k < length entries
      → is_marked marked (entry_at entries k) ≡ true
      → is_true made (entry_at entries k).literal ≡ true
  pub within : (literal : SatLit)
      → is_true made literal ≡ true
      → (is_true (before entries place) literal ≡ true) ⊎ (is_true (kept_literals entries marked top) literal ≡ true)

-- How far an analysis has come: wherever the marked literals that are left are true, and no later ones, the steps lead
-- to the conflict.
pub record IsAnalysed (clauses : List (List SatLit)) (trail : Trailing) (marked : List Bool) (below here : ℕ) (steps : List ℕ)
    : Type 0 where
  pub size : length marked ≡ trail.variables
  pub within : below ≤ length trail.entries
  pub count : here ≡ here_in trail marked below
  pub present : 0 < trail.level → 0 < here
  pub derives : (made : List SatLit)
      → IsLeft trail.entries marked below below made
      → hint_fault clauses made (reverse steps) ≡ None

-- from the conflict back to here, the steps of the analysis are right
abbrev pub IsAnalysis : List (List SatLit) → Trailing → List Bool → Analysis → Type 0
IsAnalysis clauses trail marked analysis =
    IsAnalysed clauses trail marked analysis.below analysis.here analysis.steps.items

-- How far a clause is minimized, from its last literal down to a place: wherever its literals are false, and none
-- beside them but such as stand before the place, the steps lead to the conflict. As few literals of the present level
-- are left as there can be.
pub record IsReduced (clauses : List (List SatLit)) (trail : Trailing) (marked : List Bool) (below here : ℕ) (steps : List ℕ)
    (place : ℕ) : Type 0 where
  pub size : length marked ≡ trail.variables
  pub within : below ≤ length trail.entries
  pub low : place ≤ below
  pub count : here ≡ here_in trail marked below
  pub present : 0 < trail.level → 0 < here
  pub few : here ≤ kept_here trail.level
  pub derives : (made : List SatLit)
      → IsLeft trail.entries marked place below made
      → hint_fault clauses made (reverse steps) ≡ None

-- from its last literal down to a place, the learned clause has been minimized rightly
abbrev pub IsReducing : List (List SatLit) → Trailing → List Bool → Analysis → ℕ → Type 0
IsReducing clauses trail marked analysis =
    IsReduced clauses trail marked analysis.below analysis.here analysis.steps.items

-- the clause is minimized
abbrev pub IsMinimized : List (List SatLit) → Trailing → List Bool → Analysis → Type 0
IsMinimized clauses trail marked analysis = IsReducing clauses trail marked analysis 0

-- A marked literal of the first n has this level, which is below the present one.
pub record IsReached (trail : Trailing) (marked : List Bool) (place level : ℕ) : Type 0 where
  pub at : ℕ
  pub early : at < place
  pub marked_there : is_marked marked (entry_at trail.entries at) ≡ true
  pub level_there : (entry_at trail.entries at).level ≡ level
  pub below : level < trail.level

-- The level to go back to: the greatest one below the present one among the marked literals of the first n, or 0.
pub record IsBackLevel (trail : Trailing) (marked : List Bool) (place level : ℕ) : Type 0 where
  pub most : (k : ℕ)
      → k < place
      → is_marked marked (entry_at trail.entries k) ≡ true
      → (entry_at trail.entries k).level < trail.level
      → (entry_at trail.entries k).level ≤ level
  pub reached : 0 < level → IsReached trail marked place level
