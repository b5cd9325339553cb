-- Where a search stands.
use Rattle.std.specs.Prelude.{◌≡◌, ◌≢◌, ℕ, ◌+◌, ◌-◌, ◌*◌, ◌<◌, ◌≤◌, ◌++◌, ◌∷◌, Bool, true, false, List, [], length, All, Option, None, Some, MatchOption}
use Rattle.std.specs.Prelude.{slice_index_or}
use Rattle.std.specs.List.{list_any}
use Rattle.cnf_core.specs.declared.literal.SatLit.{SatLit}
use Rattle.cnf_core.specs.declared.log.LogLine.{LogLine}
use Rattle.cnf_core.specs.Clauses.{literal_of, AreKnown}
use Rattle.cnf_core.specs.declared.effect.Effect.TheVariants.{Neither}
use Rattle.cnf_core.specs.Derivations.{clauses_of, effect_of, is_empty, is_true, line_fault, has_all, no_line}
use Rattle.cnf_core.specs.Charges.{Charging, IsCharged}
use Rattle.trail_core.specs.Trails.{Trailing, entry_at, literals, value_in}
use Rattle.watch_lists.specs.Propagations.{IsSound, before}
use Rattle.learn_solver.specs.Analyses.{IsAsserting}
use Rattle.learn_solver.specs.Solvers.{IsAdded, IsAsking, IsExtended, IsSolver, Solving, active}
use Rattle.learn_solver.specs.declared.search.Search.{Search}
use Rattle.learn_solver.specs.declared.search.Tools.{Tools}
use Rattle.learn_solver.specs.declared.verdict.Finding.{Finding}
use Rattle.learn_solver.specs.Findings.{IsFinding}
use Rattle.learn_solver.specs.Orders.{IsOrder}
use Rattle.learn_solver.specs.Starts.{AreTools, IsFitting, IsSoundBack, StayTools}
use Rattle.watch_lists.specs.Watched.{Watching}

-- a variable is assigned
abbrev pub IsAssigned : Trailing → ℕ → Type 0
IsAssigned trail v = value_in (literals trail.entries) (literal_of v false) ≢ None

-- The values of the first n variables.
pub record AreFirst (trail : Trailing) (n : ℕ) (values : List Bool) : Type 0 where
  pub count : length values ≡ n
  pub each : (v : ℕ) (d : Bool)
      → v < length values
      → slice_index_or values v d ≡ is_true (literals trail.entries) (literal_of v true)

-- the value of each variable
abbrev pub AreValues : Trailing → List Bool → Type 0
AreValues trail values = AreFirst trail trail.variables values

-- A search is under way: no line is empty, and the trail is sound for the clauses that are looked at.
pub record IsSearching (solving : Solving) (trail : Trailing) : Type 0 where
  pub variables : trail.variables ≡ solving.formula.variables
  pub unrefuted : list_any is_empty (clauses_of solving.lines) ≡ false
  pub sound : IsSound (active solving.formula solving.ids solving.lines) trail

-- the last of some lines
abbrev pub last_line : List LogLine → LogLine
last_line lines = slice_index_or lines (length lines - 1) no_line

-- What a line can be learned from.
pub record IsLearning (solving : Solving) (trail : Trailing) (watching : Watching) (tools : Tools)
    : Type 0 where
  pub searching : IsSearching solving trail
  pub solver : IsSolver solving.formula solving.ids solving.lines watching.clauses
  pub tools_are : AreTools solving.formula solving.ids tools

-- A search is under way: a line can be learned from it, and the watches fit the trail.
pub record IsRunning (solving : Solving) (trail : Trailing) (watching : Watching) (tools : Tools)
    : Type 0 where
  pub learning : IsLearning solving trail watching tools
  pub fitting : IsFitting watching trail

-- A search stays as it is, but for the order of its variables.
pub record IsSame (old new : Search) : Type 0 where
  pub trail : new.trail ≡ old.trail
  pub watches : new.watches ≡ old.watches
  pub tools : StayTools old.tools new.tools

-- A derived line that has all the literals of no clause that is looked at, and the level to go back to with it.
pub record IsLesson (solving : Solving) (trail : Trailing) (line : LogLine) (level : ℕ) : Type 0 where
  pub good : line_fault solving.formula (clauses_of solving.lines) line ≡ None
  pub fresh : All (λ clause. has_all line.clause clause ≡ false) (active solving.formula solving.ids solving.lines)
  pub low : level ≤ trail.level
  pub not_single : (k : ℕ)
      → k < length trail.entries
      → (entry_at trail.entries k).reason ≡ None
      → (entry_at trail.entries k).level ≤ level
      → effect_of (before trail.entries k) line.clause ≡ Neither
  pub asserting : IsAsserting trail line.clause level
  pub closing : trail.level ≡ 0 → is_empty line.clause ≡ true

-- the level to go back to, or none where the line is empty
abbrev pub IsWayBack : Solving → Trailing → LogLine → Option ℕ → Type 0
IsWayBack solving trail line None = is_empty line.clause ≡ true
IsWayBack solving trail line (Some level) = (is_empty line.clause ≡ false) × IsLesson solving trail line level

-- A line was learned and charged.
pub record IsLearnt {Others : Type 0} (old new : Solving) (first after : Charging Others) (trail : Trailing) (back : Option ℕ) : Type 0 where
  pub line : LogLine
  pub learned_is : IsAdded old.formula old.ids old.lines line
  pub added : new ≡ record old { lines = old.lines ++ line ∷ [] }
  pub charged : IsCharged first line after
  pub way : IsWayBack old trail line back

-- A trail has one literal more at least, and the search goes on.
pub record IsDecided (solving : Solving) (old new : Trailing) (watching : Watching) (tools : Tools)
    : Type 0 where
  pub running : IsRunning solving new watching tools
  pub longer : length old.entries < length new.entries
  pub most : length new.entries ≤ new.variables

-- how much is left to do: each line that may be learned, and in between each variable that may be assigned
abbrev pub remaining : {Others : Type 0} → Charging Others → Trailing → ℕ
remaining {Others} charging trail =
    (trail.variables + 1) * (charging.budget + 1 - charging.made) + (trail.variables - length trail.entries)

-- A search that may go back: the watches fit the trail, whose variables the order has.
pub record CanMove (search : Search) : Type 0 where
  pub fitting : IsFitting search.watches search.trail
  pub order : IsOrder search.trail.variables search.tools.order

-- A search went back, or stayed where it was, with what it has, and now has these clauses.
pub record HasMoved (old new : Search) (all : List (List SatLit)) : Type 0 where
  pub fitting : IsFitting new.watches new.trail
  pub clauses : new.watches.clauses ≡ all
  pub variables : new.trail.variables ≡ old.trail.variables
  pub tools : StayTools old.tools new.tools

-- its clauses are those that it had
abbrev pub KeepsClauses : Search → Search → Type 0
KeepsClauses old new = HasMoved old new old.watches.clauses

-- it has one clause more
abbrev pub HasReturned : Search → Search → List SatLit → Type 0
HasReturned old new clause = HasMoved old new (old.watches.clauses ++ clause ∷ [])

-- A search that may go back to a level with a learned clause, of which one literal alone isn't false there.
pub record CanReturn (search : Search) (clause : List SatLit) (level : ℕ) : Type 0 where
  pub movable : CanMove search
  pub known : AreKnown search.watches.variables clause
  pub filled : is_empty clause ≡ false
  pub above : 0 < search.trail.level
  pub asserting : IsAsserting search.trail clause level
  pub sound : IsSoundBack search.watches clause search.trail level

-- A search that may go on: it is under way, and its lines are those that were charged.
pub record CanGo {Others : Type 0} (solving : Solving) (charging : Charging Others) (search : Search) : Type 0 where
  pub running : IsRunning solving search.trail search.watches search.tools
  pub asking : IsAsking charging solving.lines

-- A search went on: its lines were charged, and it is under way, or there is an answer.
pub record HasGone {Others : Type 0} (old new : Solving) (before after : Charging Others) (search : Search)
    (answer : Option Finding) : Type 0 where
  pub extended : IsExtended old new before after
  pub asking : IsAsking after new.lines
  pub answer_is : MatchOption answer (IsRunning new search.trail search.watches search.tools) (IsFinding new)

-- A search ended: its lines were charged, and there is an answer.
pub record HasEnded {Others : Type 0} (old new : Solving) (before after : Charging Others) (found : Finding) : Type 0 where
  pub extended : IsExtended old new before after
  pub asking : IsAsking after new.lines
  pub found_is : IsFinding new found
