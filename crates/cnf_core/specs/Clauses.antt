-- Literals, clauses and formulas of propositional logic in conjunctive normal form, and what meets them (as in
-- textbooks of satisfiability; the numbers of literals are those of the AIGER format, over variables).
use Rattle.std.specs.Prelude.{◌≡◌, ℕ, ◌<◌, ◌+◌, ◌*◌, Bool, true, List, [], take, All, slice_index_or, if◌then◌else◌}
use Rattle.std.specs.List.{list_any}
use Rattle.circuits.specs.declared.netlist.Lit.{Lit}
use Rattle.circuits.specs.Literals.{signal_of, inverse, is_negated as inverts, literal_bit as bit_of}
use Rattle.cnf_core.specs.declared.literal.SatLit.{SatLit}
use Rattle.cnf_core.specs.declared.clause.Clause3.{Clause3}

-- a literal as the AIGER format numbers it, of a variable in place of a signal
abbrev pub as_signal : SatLit → Lit
as_signal literal = record { 0 = literal.0 }

-- the variable that a literal reads
abbrev pub variable_of : SatLit → ℕ
variable_of literal = signal_of (as_signal literal)

-- whether a literal inverts its variable
abbrev pub is_negated : SatLit → Bool
is_negated literal = inverts (as_signal literal)

-- each literal's variable is one of n
abbrev pub AreKnown : ℕ → List SatLit → Type 0
AreKnown variables clause = All (λ literal. variable_of literal < variables) clause

-- the literal that is true where a variable has a bit
abbrev pub literal_of : ℕ → Bool → SatLit
literal_of variable b = record { 0 = if b then 2 * variable else 2 * variable + 1 }

-- the literal of the same variable with the other sign
abbrev pub opposite : SatLit → SatLit
opposite literal = record { 0 = (inverse (as_signal literal)).0 }

-- a literal's bit where each variable has the bit that an assignment gives it
abbrev pub literal_bit : List Bool → SatLit → Bool
literal_bit assignment literal = bit_of assignment (as_signal literal)

-- a clause is met where one of its literals is true
abbrev pub is_met : List Bool → List SatLit → Bool
is_met assignment clause = list_any (literal_bit assignment) clause

-- an assignment meets all clauses
abbrev pub Meets : List Bool → List (List SatLit) → Type 0
Meets assignment clauses = All (λ clause. is_met assignment clause ≡ true) clauses

-- Clauses over n variables.
pub record Formula : Type 0 where
  pub variables : ℕ
  pub clauses : List (List SatLit)

-- the clause of a number
abbrev pub clause_at : List (List SatLit) → ℕ → List SatLit
clause_at clauses id = slice_index_or clauses id []

-- the literals of a short clause
abbrev pub literals_of : Clause3 → List SatLit
literals_of clause = take clause.len clause.lits
