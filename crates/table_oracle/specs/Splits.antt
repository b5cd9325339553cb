-- Refutation by splitting on one input after the other (Davis, Logemann and Loveland, 1962): vectors are excluded by
-- the bits that they begin with, the longest beginnings first.
use Rattle.std.specs.Prelude.{◌≡◌, ℕ, ◌+◌, ◌<◌, ◌≤◌, Bool, true, false, not, List, [], ◌∷◌, ◌++◌, length, map, All}
use Rattle.std.specs.List.{list_any, range_with_len}
use Rattle.circuits.specs.Literals.{bit}
use Rattle.cnf_core.specs.declared.literal.SatLit.{SatLit}
use Rattle.cnf_core.specs.declared.log.LogLine.{LogLine}
use Rattle.cnf_core.specs.Clauses.{clause_at, literal_of}
use Rattle.cnf_core.specs.Derivations.{clauses_of, has_all}
use Rattle.net_core.specs.Graph.{IsGraph}
use Rattle.claim_core.specs.Queries.{IsQuery, IsUnmet, bits_in}
use Rattle.claim_core.specs.Formulas.{Asking, formula_of, query_clauses}
use Rattle.learn_solver.specs.Solvers.{Solving}
use Rattle.table_oracle.specs.declared.splitting.Splitting.{Splitting}

-- the clause that excludes the vectors that begin with these bits: input i has variable 1 + i
abbrev pub excluding : List Bool → List SatLit
excluding bits = map (λ i. literal_of (1 + i) (not (bit bits i))) (range_with_len 0 (length bits))

-- a query's clauses, then those of its lines
abbrev pub clauses_in : Asking → List LogLine → List (List SatLit)
clauses_in asking lines = query_clauses asking.graphs asking.query ++ clauses_of lines

-- a query's clauses, all of them looked at, with its lines
abbrev pub solving_of : Asking → List LogLine → Solving
solving_of asking lines = record {
  formula = formula_of asking.graphs asking.query;
  ids = range_with_len 0 (length (query_clauses asking.graphs asking.query));
  lines = lines;
}

-- one of these clauses excludes the vectors that begin with these bits, and perhaps more
abbrev pub IsExcluded : List (List SatLit) → List Bool → Type 0
IsExcluded clauses bits = list_any (has_all (excluding bits)) clauses ≡ true

-- all beginnings of n bits are excluded
abbrev pub AllExcluded : List (List SatLit) → ℕ → Type 0
AllExcluded clauses count = (bits : List Bool) → length bits ≡ count → IsExcluded clauses bits

-- both ways to go on after these bits are excluded
abbrev pub IsClosed : List (List SatLit) → List Bool → Type 0
IsClosed clauses bits = (b : Bool) → IsExcluded clauses (bits ++ b ∷ [])

-- the clause of a number has literals of this one alone
pub record IsCovering (clauses : List (List SatLit)) (clause : List SatLit) (id : ℕ) : Type 0 where
  pub within : id < length clauses
  pub has : has_all clause (clause_at clauses id) ≡ true

-- a clause says something that none of these says
abbrev pub IsNew : List (List SatLit) → List SatLit → Type 0
IsNew clauses clause = All (λ other. has_all clause other ≡ false) clauses

-- A query that fits two circuits, and that no vector of at most 12 bits meets.
pub record IsSplitting (splitting : Splitting) : Type 0 where
  pub first : IsGraph splitting.base.graphs.first
  pub second : IsGraph splitting.base.graphs.second
  pub fits : IsQuery splitting.base.graphs splitting.base.query
  pub unmet : IsUnmet splitting.base.graphs splitting.base.query
  pub inputs : splitting.inputs ≡ bits_in splitting.base.graphs splitting.base.query
  pub small : splitting.inputs ≤ 12

-- some of the first bits of a vector; where they aren't all, both ways to go on are excluded
pub record IsBeginning (splitting : Splitting) (lines : List LogLine) (bits : List Bool) : Type 0 where
  pub within : length bits ≤ splitting.inputs
  pub closed : length bits < splitting.inputs → IsClosed (clauses_in splitting.base lines) bits
