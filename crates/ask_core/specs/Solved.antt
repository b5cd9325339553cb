-- What is learned over dense variables, and what it is charged to.
use Rattle.std.specs.Prelude.{◌≡◌, ℕ, ◌+◌, ◌<◌, ◌≤◌, [], true, false, List, ◌++◌, length, map, take, All, slice_index_or}
use Rattle.std.specs.List.{list_any}
use Rattle.cnf_core.specs.declared.log.LogLine.{LogLine}
use Rattle.cnf_core.specs.declared.stop.Stop.{Stop}
use Rattle.cnf_core.specs.declared.stop.Stop.TheVariants.{Spent, Memory}
use Rattle.cnf_core.specs.Clauses.{Formula, Meets}
use Rattle.cnf_core.specs.Charges.{Charging}
use Rattle.cnf_core.specs.Derivations.{AreDerived, clauses_of, is_empty, has_all}
use Rattle.learn_solver.specs.Solvers.{IsModel, IsRefuted, Solving}
use Rattle.learn_solver.specs.declared.verdict.Finding.{Finding}
use Rattle.learn_solver.specs.declared.verdict.Finding.TheVariants.{Model, Refuted}
use Rattle.ask_core.specs.declared.verdict.DenseVerdict.{DenseVerdict}
use Rattle.ask_core.specs.declared.verdict.DenseVerdict.TheVariants.{Model as Full, Refuted as Logged}
use Rattle.ask_core.specs.Renamings.{IsSpread, numbers_of, translated}

-- Lines that are derived from a formula, each of which has all the literals of no clause and no line before it.
pub record AreLearned (formula : Formula) (lines : List LogLine) : Type 0 where
  pub derived : AreDerived formula lines
  pub fresh : (k : ℕ) (d : LogLine)
      → k < length lines
      → All (λ clause. has_all (slice_index_or lines k d).clause clause ≡ false) (formula.clauses ++ clauses_of (take k lines))

-- what an answer says of a formula, with the lines that were learned for it
abbrev pub IsFound : Formula → List LogLine → Finding → Type 0
IsFound formula lines (Model values) = (length values ≡ formula.variables) × Meets values formula.clauses
IsFound formula lines Refuted = list_any is_empty (clauses_of lines) ≡ true

-- The budget was spent on lines, a refused one counted.
pub record IsSpentOn {O : Type 0} (lines : List LogLine) (before : Charging O) (learned : ℕ) : Type 0 where
  pub told : learned ≡ before.budget
  pub used : before.made + length lines ≡ before.budget + 1

-- why a search over dense variables ended without an answer
abbrev pub IsHalted : {O : Type 0} → Formula → List LogLine → Charging O → Stop → Type 0
IsHalted {O} formula lines before (Spent learned) = AreLearned formula lines × IsSpentOn lines before learned
IsHalted {O} formula lines before Memory = Unit {0}

-- a solver for all clauses of a formula, without a line
pub record IsAll (small : Formula) (s : Solving) : Type 0 where
  pub is : s ≡ record { formula = small; ids = numbers_of [] 0 (length small.clauses); lines = [] }

-- Lines were charged.
pub record AreCharged {O : Type 0} (old : Charging O) (lines : List LogLine) (new : Charging O) : Type 0 where
  pub within : (k : ℕ) → k < length lines → old.made + k < old.budget
  pub charged : new ≡ record old { lines = old.lines ++ lines; made = old.made + length lines }

-- Lines were charged up to one that was refused.
pub record AreOverdrawn {O : Type 0} (old : Charging O) (lines : List LogLine) (new : Charging O) (learned : ℕ) : Type 0 where
  pub count : ℕ
  pub there : count < length lines
  pub told : learned ≡ old.budget
  pub spent : old.made + count ≡ old.budget
  pub refused : new ≡ record old { lines = old.lines ++ take (count + 1) lines; made = old.made + count + 1; spent = true }

-- not all of the lines could be charged: the budget was spent on the way, or memory ran out
abbrev pub AreRefused : {O : Type 0} → Charging O → List LogLine → Charging O → Stop → Type 0
AreRefused {O} old lines new (Spent learned) = AreOverdrawn old lines new learned
AreRefused {O} old lines new Memory = Unit {0}

-- an answer over dense variables and the one over the formula's: each variable has the bit of its dense variable, or the
-- log has the lemmas and then the lines
abbrev pub IsTranslated : List ℕ → ℕ → List LogLine → Finding → DenseVerdict → Type 0
IsTranslated names variables lines (Model values) (Full full) = IsSpread names values variables full
IsTranslated names variables lines Refuted (Logged whole) = whole.lines ≡ lines
IsTranslated names variables lines (Model values) (Logged whole) = ⊥
IsTranslated names variables lines Refuted (Full full) = ⊥

-- what an answer says of a solver's clauses: its model has a value for each variable of the formula
abbrev pub IsDenseVerdict : Solving → DenseVerdict → Type 0
IsDenseVerdict solving (Full values) = IsModel solving values
IsDenseVerdict solving (Logged log) = IsRefuted solving log.lines

-- a model has a value for each of n dense variables
abbrev pub HaveNamed : ℕ → Finding → Type 0
HaveNamed n (Model values) = length values ≡ n
HaveNamed n Refuted = Unit {0}

-- A search over dense variables that ended with an answer: its lines were charged as the formula's.
pub record IsSettled {O : Type 0} (small : Formula) (names numbers : List ℕ) (full : Formula) (lemmas : List LogLine)
    (old new : Charging O) (answer : DenseVerdict) : Type 0 where
  pub lines : List LogLine
  pub own : Finding
  pub learned : AreLearned small lines
  pub found : IsFound small lines own
  pub charged : AreCharged old (map (translated names numbers (length full.clauses + length lemmas)) lines) new
  pub verdict : IsTranslated names full.variables (lemmas ++ map (translated names numbers (length full.clauses + length lemmas)) lines) own answer

-- A search over dense variables whose lines were charged up to one that was refused.
pub record IsCutOff {O : Type 0} (small : Formula) (names numbers : List ℕ) (full : Formula) (lemmas : List LogLine)
    (old new : Charging O) (learned_lines : ℕ) : Type 0 where
  pub lines : List LogLine
  pub learned : AreLearned small lines
  pub overdrawn : AreOverdrawn old (map (translated names numbers (length full.clauses + length lemmas)) lines) new learned_lines

-- a search over dense variables has no answer: the budget is spent, or memory ran out
abbrev pub IsUnsettled : {O : Type 0}
    → Formula
    → List ℕ
    → List ℕ
    → Formula
    → List LogLine
    → Charging O
    → Charging O
    → Stop
    → Type 0
IsUnsettled {O} small names numbers full lemmas old new (Spent learned) = IsCutOff small names numbers full lemmas old new learned
IsUnsettled {O} small names numbers full lemmas old new Memory = Unit {0}

-- a solver that begins with lemmas
abbrev pub start_of : Formula → List ℕ → List LogLine → Solving
start_of formula ids lemmas = record { formula = formula; ids = ids; lines = lemmas }

-- the solver's state where its entry has these lines
abbrev pub with_lines_of : {O : Type 0} → Solving → Charging O → Solving
with_lines_of {O} start after = record start { lines = after.lines }

-- a tab has a ledger's budget, of which as much is spent, and no line
pub record IsOf {O : Type 0} (tab : Charging (Unit {0})) (ledger : Charging O) : Type 0 where
  pub budget : tab.budget ≡ ledger.budget
  pub made : tab.made ≡ ledger.made
  pub none : tab.lines ≡ []
  pub within : tab.made ≤ tab.budget
  pub open_too : tab.opened ≡ true
  pub not_spent : tab.spent ≡ false
