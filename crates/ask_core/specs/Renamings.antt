-- Clauses and lines over dense variables, with numbers of their own, and over the formula's: each dense variable is a
-- place in a list of names, which are the formula's variables that occur.
use Rattle.std.specs.Prelude.{◌≡◌, ℕ, ◌+◌, ◌-◌, ◌<◌, ◌≤◌, ◌^◌, ◌++◌, not, eqb, Bool, true, List, length, map, All, Contains, nat_lt, slice_index_or}
use Rattle.std.specs.Prelude.{if◌then◌else◌}
use Rattle.std.specs.List.{IsDistinct, range_with_len}
use Rattle.std.specs.List.Sorted.{IsNonDecreasing}
use Rattle.circuits.specs.Literals.{bit}
use Rattle.cnf_core.specs.declared.literal.SatLit.{SatLit}
use Rattle.cnf_core.specs.declared.clause.Clause3.{Clause3}
use Rattle.cnf_core.specs.declared.log.LogLine.{LogLine}
use Rattle.cnf_core.specs.Clauses.{Formula, clause_at, is_negated, literal_of, literals_of, variable_of, AreKnown}
use Rattle.cnf_core.specs.Derivations.{clauses_of}
use Rattle.ask_core.specs.declared.places.Places.{Places}
use Rattle.ask_core.specs.declared.places.Places.TheVariants.{Table, Bisected}

-- a literal with its sign, of the variable that is listed for its own
abbrev pub renamed : List ℕ → SatLit → SatLit
renamed names literal = literal_of (slice_index_or names (variable_of literal) 0) (not (is_negated literal))

-- a clause's number where the first clauses have the numbers that are listed, and the others go on from a number
abbrev pub renumbered : List ℕ → ℕ → ℕ → ℕ
renumbered numbers next k = if nat_lt k (length numbers) then slice_index_or numbers k 0 else next + (k - length numbers)

-- a line over other variables, with other hints
abbrev pub translated : List ℕ → List ℕ → ℕ → LogLine → LogLine
translated names numbers next line = record { clause = map (renamed names) line.clause; hints = map (renumbered numbers next) line.hints }

-- Different variables of a formula.
pub record AreNames (variables : ℕ) (names : List ℕ) : Type 0 where
  pub known : All (λ v. v < variables) names
  pub few : All (λ v. v < 2 ^ 63) names
  pub apart : (j k : ℕ) → j < length names → k < length names
      → slice_index_or names j 0 ≡ slice_index_or names k 0 → j ≡ k

-- clauses of one to three literals
abbrev pub AreShort : List (List SatLit) → Type 0
AreShort clauses = All (λ clause. (1 ≤ length clause) × (length clause ≤ 3)) clauses

-- A short clause over n variables.
pub record IsOver (variables : ℕ) (clause : Clause3) : Type 0 where
  pub some : 1 ≤ clause.len
  pub short : clause.len ≤ 3
  pub filled : 1 ≤ length (literals_of clause)
  pub known : AreKnown variables (literals_of clause)

-- These are short clauses over n variables.
pub record AreOver (variables : ℕ) (clauses : List (List SatLit)) (listed : List Clause3) : Type 0 where
  pub are : map literals_of listed ≡ clauses
  pub over : All (IsOver variables) listed

-- a clause's variables are among these
abbrev pub IsNamed : List ℕ → List SatLit → Type 0
IsNamed names clause = All (λ literal. Contains names (variable_of literal)) clause

-- Different variables of n, in any order.
pub record AreListed (variables : ℕ) (names : List ℕ) : Type 0 where
  pub known : All (λ v. v < variables) names
  pub few : All (λ v. v < 2 ^ 63) names
  pub distinct : IsDistinct eqb names

-- Different variables of n, with a mark for each of these.
pub record AreMarks (variables : ℕ) (names : List ℕ) (marked : List Bool) : Type 0 where
  pub size : length marked ≡ variables
  pub listed : AreListed variables names
  pub marks : (v : ℕ) → bit marked v ≡ true → Contains names v
  pub marked_are : All (λ v. bit marked v ≡ true) names

-- the dense variable of each variable that occurs
pub record ArePlaces (variables : ℕ) (names places : List ℕ) : Type 0 where
  pub size : length places ≡ variables
  pub few : All (λ place. place < 2 ^ 63) places
  pub each : (k : ℕ) → k < length names → slice_index_or places (slice_index_or names k 0) 0 ≡ k

-- A table has the dense variable of each variable that occurs.
pub record IsTable (names table : List ℕ) : Type 0 where
  pub are : ArePlaces (length table) names table
  pub known : All (λ v. v < length table) names

-- how dense variables are found is right for these names
abbrev pub ArePlacesOf : List ℕ → Places → Type 0
ArePlacesOf names (Table table) = IsTable names table.items
ArePlacesOf names Bisected = IsNonDecreasing names

-- The first n of clauses, over dense variables.
pub record AreOverPlaces (names : List ℕ) (clauses dense : List Clause3) (count : ℕ) : Type 0 where
  pub size : length dense ≡ count
  pub over : All (IsOver (length names)) dense
  pub back : (k : ℕ) (c d : Clause3) → k < count
      → map (renamed names) (literals_of (slice_index_or dense k c)) ≡ literals_of (slice_index_or clauses k d)

-- Clauses over dense variables, the formula's variable of each of these, and the numbers that the clauses have.
pub record Dense : Type 0 where
  pub names : List ℕ
  pub clauses : List (List SatLit)
  pub numbers : List ℕ

-- the clauses as a formula of their own
abbrev pub dense_formula : Dense → Formula
dense_formula dense = record { variables = length dense.names; clauses = dense.clauses }

-- What is kept of clauses over dense variables.
pub record IsDense (names : List ℕ) (clauses : List Clause3) : Type 0 where
  pub few : All (λ v. v < 2 ^ 63) names
  pub over : All (IsOver (length names)) clauses
  pub fewer : length clauses < 2 ^ 62

-- the numbers of clauses of a formula, and those of n lemmas after it
abbrev pub numbers_of : List ℕ → ℕ → ℕ → List ℕ
numbers_of ids count lemmas = ids ++ map (λ j. count + j) (range_with_len 0 lemmas)

-- Clauses over dense variables are clauses of a formula and of lemmas after it, over that one's variables:
-- clause k is the one of the number that is listed for it.
pub record IsRenaming (small : Formula) (names numbers : List ℕ) (full : Formula) (lemmas : List LogLine) : Type 0 where
  pub names_are : AreNames full.variables names
  pub variables : small.variables ≡ length names
  pub known : All (AreKnown (length names)) small.clauses
  pub count : length numbers ≡ length small.clauses
  pub there : All (λ id. id < length full.clauses + length lemmas) numbers
  pub each : (k : ℕ) → k < length numbers
      → clause_at (full.clauses ++ clauses_of lemmas) (slice_index_or numbers k 0) ≡ map (renamed names) (clause_at small.clauses k)

-- Each variable that occurs has the bit of its dense variable in values for all variables.
pub record IsSpread (names : List ℕ) (values : List Bool) (variables : ℕ) (full : List Bool) : Type 0 where
  pub size : length full ≡ variables
  pub each : (k : ℕ) → k < length names → bit full (slice_index_or names k 0) ≡ bit values k
