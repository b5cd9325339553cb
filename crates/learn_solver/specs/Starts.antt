-- A search that begins: its clauses are attached one after the other.
use Rattle.std.specs.Prelude.{◌≡◌, ℕ, ◌<◌, ◌++◌, ◌∷◌, false, List, [], length, replicate}
use Rattle.cnf_core.specs.declared.literal.SatLit.{SatLit}
use Rattle.trail_core.specs.Trails.{IsBack, Trailing, literals}
use Rattle.watch_lists.specs.Propagations.{IsConflict, IsSound}
use Rattle.watch_lists.specs.Watched.{AreUnattachedFrom, Fits, IsCovered, IsPresent, Watching}
use Rattle.cnf_core.specs.Clauses.{Formula}
use Rattle.learn_solver.specs.declared.search.Tools.{Tools}
use Rattle.learn_solver.specs.Orders.{IsOrder}
use Rattle.learn_solver.specs.Solvers.{HaveVariables, IsSolver, Solving, wanted}

-- The first clauses were attached, at level 0.
pub record IsStarting (old now : Watching) (trail : Trailing) (count : ℕ) : Type 0 where
  pub variables : now.variables ≡ old.variables
  pub clauses : now.clauses ≡ old.clauses
  pub fits : Fits now trail
  pub present : IsPresent trail
  pub sound : IsSound now.clauses trail
  pub lowest : trail.level ≡ 0
  pub covered : (id : ℕ) → id < count → IsCovered now trail.entries id
  pub unattached : AreUnattachedFrom now count

-- Nothing is attached, and nothing assigned.
pub record AreIdle (watching : Watching) (trail : Trailing) : Type 0 where
  pub empty : trail ≡ record { variables = watching.variables; entries = []; level = 0; walked = 0 }
  pub unattached : AreUnattachedFrom watching 0

-- The variables that are decided; a mark for each variable, none of which is set; and an order of the variables.
pub record AreTools (formula : Formula) (ids : List ℕ) (tools : Tools) : Type 0 where
  pub variables : HaveVariables formula.variables (wanted formula ids) tools.occurring.items
  pub unmarked : tools.marks.items ≡ replicate formula.variables false
  pub order : IsOrder formula.variables tools.order

-- what was kept of the variables still is
abbrev pub StayTools : Tools → Tools → Type 0
StayTools old new = (formula : Formula) (ids : List ℕ) → AreTools formula ids old → AreTools formula ids new

-- A search that hasn't begun.
pub record IsBegun (solving : Solving) (trail : Trailing) (watching : Watching) (tools : Tools)
    : Type 0 where
  pub solver : IsSolver solving.formula solving.ids solving.lines watching.clauses
  pub variables : watching.variables ≡ solving.formula.variables
  pub idle : AreIdle watching trail
  pub tools_are : AreTools solving.formula solving.ids tools

-- All literals of a clause are false at level 0.
pub record IsStuck (old now : Watching) (trail : Trailing) (id : ℕ) : Type 0 where
  pub clauses : now.clauses ≡ old.clauses
  pub variables : trail.variables ≡ old.variables
  pub sound : IsSound now.clauses trail
  pub lowest : trail.level ≡ 0
  pub conflict : IsConflict now.clauses (literals trail.entries) id

-- The watches fit a sound trail, and each clause is attached or has a literal that is true at level 0.
pub record IsFitting (watching : Watching) (trail : Trailing) : Type 0 where
  pub fits : Fits watching trail
  pub present : IsPresent trail
  pub sound : IsSound watching.clauses trail
  pub covered : (id : ℕ) → id < length watching.clauses → IsCovered watching trail.entries id

-- with one clause more, the trail is sound at a level to go back to
abbrev pub IsSoundBack : Watching → List SatLit → Trailing → ℕ → Type 0
IsSoundBack watching clause trail level = (back : Trailing)
    → IsBack trail back level
    → IsSound (watching.clauses ++ clause ∷ []) back
