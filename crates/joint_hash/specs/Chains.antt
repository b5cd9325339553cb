-- Clauses that lead from literals that were made true to a conflict, one after the other (unit propagation).
use Rattle.std.specs.Prelude.{◌≡◌, ◌⊎◌, ℕ, ◌<◌, true, List, [], ◌∷◌, ◌++◌, length, All, Contains}
use Rattle.std.specs.List.{AllByRecursion}
use Rattle.cnf_core.specs.declared.literal.SatLit.{SatLit}
use Rattle.cnf_core.specs.declared.log.LogLine.{LogLine}
use Rattle.cnf_core.specs.Clauses.{Formula, clause_at}
use Rattle.cnf_core.specs.Derivations.{clauses_of, is_false}

-- the clauses that a line after these may use
abbrev pub clauses_with : Formula → List LogLine → List (List SatLit)
clauses_with formula lines = formula.clauses ++ clauses_of lines

-- each literal of a clause but this one is false
abbrev pub LeavesOnly : List SatLit → List SatLit → SatLit → Type 0
LeavesOnly made clause literal = AllByRecursion (λ l. (l ≡ literal) ⊎ (is_false made l ≡ true)) clause

-- The clauses of these numbers, in their order, lead from literals that were made true to a conflict: each leaves one
-- literal, which is true from then on, or none.
abbrev pub LeadOn : List (List SatLit) → List SatLit → List ℕ → Type 0
LeadOn clauses made [] = ⊥
LeadOn clauses made (id ∷ ids) =
    (id < length clauses)
    × (AllByRecursion (λ l. is_false made l ≡ true) (clause_at clauses id)
    ⊎ ((literal : SatLit) × LeavesOnly made (clause_at clauses id) literal × LeadOn clauses (made ++ literal ∷ []) ids))

-- those of these numbers that are below a count are among others
abbrev pub AreListed : ℕ → List ℕ → List ℕ → Type 0
AreListed count listed ids = All (λ id. id < count → Contains listed id) ids

-- what is added to numbers are those of lines, and that of the clause of variable 0
abbrev pub AddsLines : ℕ → List ℕ → List ℕ → Type 0
AddsLines count old new = (listed : List ℕ) → Contains listed 0 → AreListed count listed old → AreListed count listed new
