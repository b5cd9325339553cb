-- What a solver is, and what its answers say.
use Rattle.std.specs.Prelude.{◌≡◌, ℕ, ◌+◌, ◌-◌, ◌^◌, ◌<◌, ◌≤◌, Bool, true, false, List, ◌++◌, length, map, take, All, Contains, None, nat_lt, slice_index_or}
use Rattle.std.specs.Prelude.{if◌then◌else◌}
use Rattle.cnf_core.specs.declared.literal.SatLit.{SatLit}
use Rattle.cnf_core.specs.declared.log.LogLine.{LogLine}
use Rattle.cnf_core.specs.declared.stop.Stop.{Stop}
use Rattle.cnf_core.specs.declared.stop.Stop.TheVariants.{Spent, Memory}
use Rattle.cnf_core.specs.Clauses.{Formula, Meets, clause_at, variable_of, AreKnown}
use Rattle.cnf_core.specs.Derivations.{AreDerived, IsRefutation, clauses_of, is_empty, line_fault, has_all}
use Rattle.cnf_core.specs.Charges.{Charging}
use Rattle.learn_solver.specs.declared.verdict.Verdict.{Verdict}
use Rattle.learn_solver.specs.declared.verdict.Verdict.TheVariants.{Model, Refuted}

-- The formula, the numbers of the clauses that are looked at, and the lines: lemmas, then learned ones.
pub record Solving : Type 0 where
  pub formula : Formula
  pub ids : List ℕ
  pub lines : List LogLine

-- the clauses that are to be met
abbrev pub wanted : Formula → List ℕ → List (List SatLit)
wanted formula ids = map (clause_at formula.clauses) ids

-- the clauses that are looked at: the wanted ones, then those of the lines
abbrev pub active : Formula → List ℕ → List LogLine → List (List SatLit)
active formula ids lines = wanted formula ids ++ clauses_of lines

-- the number that a clause that is looked at has in the formula and its log
abbrev pub id_at : Formula → List ℕ → ℕ → ℕ
id_at formula ids k =
    if nat_lt k (length ids) then slice_index_or ids k 0 else length formula.clauses + (k - length ids)

-- These are the clauses that are looked at.
pub record IsSolver (formula : Formula) (ids : List ℕ) (lines : List LogLine) (clauses : List (List SatLit))
    : Type 0 where
  pub stored : clauses ≡ active formula ids lines
  pub there : All (λ id. id < length formula.clauses) ids
  pub known : All (AreKnown formula.variables) clauses
  pub filled : All (λ clause. is_empty clause ≡ false) (wanted formula ids)
  pub derived : AreDerived formula lines

-- These are known variables, and those of the clauses are among them.
pub record HaveVariables (variables : ℕ) (clauses : List (List SatLit)) (occurring : List ℕ) : Type 0 where
  pub known : All (λ v. v < variables) occurring
  pub all : All (λ clause. All (λ literal. Contains occurring (variable_of literal)) clause) clauses

-- What each solver keeps of what it was given, and of what it derived.
pub record IsGiven (formula : Formula) (ids : List ℕ) (lines : List LogLine) : Type 0 where
  pub there : All (λ id. id < length formula.clauses) ids
  pub derived : AreDerived formula lines

-- An entry is open for charges and has these lines, none of which is refused.
pub record IsAsking {Others : Type 0} (charging : Charging Others) (lines : List LogLine) : Type 0 where
  pub opened : charging.opened ≡ true
  pub lines_are : charging.lines ≡ lines
  pub not_spent : charging.spent ≡ false

-- A line that may be added: it is derived, and has all the literals of no clause that is looked at.
pub record IsAdded (formula : Formula) (ids : List ℕ) (lines : List LogLine) (line : LogLine) : Type 0 where
  pub derived : line_fault formula (clauses_of lines) line ≡ None
  pub fresh : All (λ clause. has_all line.clause clause ≡ false) (active formula ids lines)

-- Lines were added at the end, and to the open entry too.
pub record IsExtended {Others : Type 0} (old new : Solving) (before after : Charging Others) : Type 0 where
  pub formula : new.formula ≡ old.formula
  pub ids : new.ids ≡ old.ids
  pub longer : length old.lines ≤ length new.lines
  pub kept : take (length old.lines) new.lines ≡ old.lines
  pub added : (k : ℕ) (d : LogLine)
      → length old.lines ≤ k
      → k < length new.lines
      → IsAdded old.formula old.ids (take k new.lines) (slice_index_or new.lines k d)
  pub budget : after.budget ≡ before.budget
  pub opened : after.opened ≡ before.opened
  pub others : after.others ≡ before.others
  pub lines_are : after.lines ≡ new.lines
  pub counted : after.made + length old.lines ≡ before.made + length new.lines

-- A value for each variable that meets the wanted clauses.
pub record IsModel (solving : Solving) (values : List Bool) : Type 0 where
  pub variables : length values ≡ solving.formula.variables
  pub meets : Meets values (wanted solving.formula solving.ids)

-- The solver's lines, which refute the formula.
pub record IsRefuted (solving : Solving) (lines : List LogLine) : Type 0 where
  pub lines_are : lines ≡ solving.lines
  pub refutes : IsRefutation solving.formula lines

-- what an answer says
abbrev pub IsVerdict : Solving → Verdict → Type 0
IsVerdict solving (Model values) = IsModel solving values
IsVerdict solving (Refuted log) = IsRefuted solving log.lines

-- The budget is spent, and the last line is the refused one.
pub record IsSpentAt {Others : Type 0} (old new : Solving) (before after : Charging Others) (learned : ℕ) : Type 0 where
  pub extended : IsExtended old new before after
  pub learned_is : learned ≡ before.budget
  pub spent : after.spent ≡ true
  pub used : after.made ≡ before.budget + 1

-- a search ends without an answer: the budget is spent, or memory ran out
abbrev pub IsStopped : {Others : Type 0} → Solving → Solving → Charging Others → Charging Others → Stop → Type 0
IsStopped {Others} old new before after (Spent learned) = IsSpentAt old new before after learned
IsStopped {Others} old new before after Memory = Unit {0}

-- At most 3^n lines were made over n variables, a refused one counted: as many as there are clauses in which each
-- variable stands plain, stands negated or doesn't stand.
abbrev pub IsBounded : {Others : Type 0} → ℕ → Charging Others → Charging Others → Type 0
IsBounded {Others} variables before after = after.made ≤ before.made + 3 ^ variables

-- so it is where the budget is spent
abbrev pub IsBoundedStop : {Others : Type 0} → ℕ → Charging Others → Charging Others → Stop → Type 0
IsBoundedStop {Others} variables before after (Spent learned) = IsBounded variables before after
IsBoundedStop {Others} variables before after Memory = Unit {0}

-- These clauses are those of the numbers. Their variables are known, and none is empty.
pub record ArePut (formula : Formula) (ids : List ℕ) (clauses : List (List SatLit)) : Type 0 where
  pub put : clauses ≡ wanted formula ids
  pub known : All (AreKnown formula.variables) clauses
  pub filled : All (λ clause. is_empty clause ≡ false) clauses
