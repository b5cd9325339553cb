-- Lines of a log, written into another log.
use Rattle.std.specs.Prelude.{◌≡◌, ◌⊎◌, ℕ, ◌-◌, ◌<◌, ◌≤◌, false, List, length, map, All, Contains, Option, None, Some, nat_lt, slice_index_or, if◌then◌else◌}
use Rattle.std.specs.List.{list_any}
use Rattle.cnf_core.specs.declared.log.LogLine.{LogLine}
use Rattle.cnf_core.specs.Clauses.{Formula, clause_at}
use Rattle.cnf_core.specs.Derivations.{AreDerived, IsRefutation, clauses_of, is_empty}
use Rattle.shared_lemmas.specs.declared.common.Common.{Common}

-- Two formulas over the same variables have as many clauses, of which the first ones are the same.
pub record HaveCommon (common : Common) (one other : Formula) : Type 0 where
  pub variables : other.variables ≡ one.variables
  pub count : length one.clauses ≡ common.count
  pub other_count : length other.clauses ≡ common.count
  pub within : common.same ≤ common.count
  pub same : (id : ℕ) → id < common.same → clause_at other.clauses id ≡ clause_at one.clauses id

-- the number in another log of a clause: that of a formula's first clauses is the same, and those of lines are listed
abbrev pub number_in : Common → List (Option ℕ) → ℕ → Option ℕ
number_in common numbers id =
    if nat_lt id common.same then Some id
    else if nat_lt id common.count then None
    else slice_index_or numbers (id - common.count) None

-- A line with other numbers: its clause, and the number that each of its hints has in another log.
pub record IsRenumbered (common : Common) (numbers : List (Option ℕ)) (line own : LogLine) : Type 0 where
  pub clause : own.clause ≡ line.clause
  pub hints : map (number_in common numbers) line.hints ≡ map Some own.hints

-- The line of a place has a number in another log: the line that has it there has the same clause.
pub record IsThere (count : ℕ) (source target : List LogLine) (place number : ℕ) : Type 0 where
  pub late : count ≤ number
  pub there : number - count < length target
  pub same : clause_at (clauses_of target) (number - count) ≡ clause_at (clauses_of source) place

-- each line that has a number in another log has it there
abbrev pub ArePlaced : ℕ → List LogLine → List LogLine → List (Option ℕ) → Type 0
ArePlaced count source target numbers = (place number : ℕ)
    → slice_index_or numbers place None ≡ Some number
    → IsThere count source target place number

-- Lines that are derived in order from a formula, none of them empty: others may follow.
pub record MayGoOn (formula : Formula) (lines : List LogLine) : Type 0 where
  pub derived : AreDerived formula lines
  pub unclosed : list_any is_empty (clauses_of lines) ≡ false

-- a log of one formula goes on by lines of a log of another, with which it has clauses in common
abbrev pub GoesOn : Common → List LogLine → List LogLine → List LogLine → Type 0
GoesOn common source old new = (one other : Formula)
    → HaveCommon common one other
    → AreDerived one source
    → MayGoOn other old
    → MayGoOn other new

-- the last line of a log
pub record IsLastOf (lines : List LogLine) (line : LogLine) : Type 0 where
  pub some : 0 < length lines
  pub is : (d : LogLine) → slice_index_or lines (length lines - 1) d ≡ line

-- A line was written as this one: it has its clause, and its hints are hints of that one, or numbers of lines.
pub record IsWrittenAs (count : ℕ) (line own : LogLine) : Type 0 where
  pub clause : own.clause ≡ line.clause
  pub hints : All (λ id. id < count → Contains line.hints id) own.hints

-- A line of a log was written as this one.
pub record IsWrittenOf (count : ℕ) (source : List LogLine) (own : LogLine) : Type 0 where
  pub line : LogLine
  pub there : Contains source line
  pub is : IsWrittenAs count line own

-- each line stood there, or is a line of a log that was written
abbrev pub AreWritten : ℕ → List LogLine → List LogLine → List LogLine → Type 0
AreWritten count source old new = All (λ own. Contains old own ⊎ IsWrittenOf count source own) new

-- a part of lines refutes what these refute
abbrev pub Trims : ℕ → List LogLine → List LogLine → Type 0
Trims count lines part = (formula : Formula)
    → length formula.clauses ≡ count
    → IsRefutation formula lines
    → IsRefutation formula part

-- Lines of a log were written into another one, and listed.
pub record IsTaking (common : Common) (source old new : List LogLine) (numbers : List (Option ℕ)) : Type 0 where
  pub size : length numbers ≡ length source
  pub placed : ArePlaced common.count source new numbers
  pub goes_on : GoesOn common source old new
  pub written : AreWritten common.count source old new

-- More of the lines are listed, each with the number of a line that has its clause.
pub record AreNoted (count : ℕ) (source target : List LogLine) (old new : List (Option ℕ)) : Type 0 where
  pub size : length new ≡ length old
  pub placed : ArePlaced count source target new
