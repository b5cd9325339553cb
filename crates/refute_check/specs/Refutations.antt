-- What a check of a log has taken.
use Rattle.std.specs.Prelude.{◌≡◌, ℕ, Bool, false, List, [], ◌∷◌, All, Option, None, Some, Result, Ok, Err, refl}
use Rattle.std.specs.Coded.{Coded, code_by, coded×, coded_ℕ, coded_list, coded_option}
use Rattle.std.specs.List.{list_any}
use Rattle.cnf_core.specs.declared.literal.SatLit.{SatLit}
use Rattle.cnf_core.specs.declared.fault.LineFault.{LineFault}
use Rattle.cnf_core.specs.Clauses.{Formula, AreKnown}
use Rattle.cnf_core.specs.Derivations.{is_empty}
use Rattle.cnf_core.specs.Stores.{Stored}
use Rattle.refute_check.specs.Values.{Made}

-- A base, the clauses of the lines that were taken, in order, and the room for one line more: none, or n literals at
-- most.
pub record Refuting (B : Type 0) : Type 0 where
  pub base : B
  pub taken : List (List SatLit)
  pub room : Option ℕ

-- a literal is stored as its number
abbrev pub literal_code : Coded SatLit
literal_code = code_by ℕ coded_ℕ (λ literal. literal.0) (λ number. record { 0 = number }) (λ _. refl)

-- what a check has taken is stored as the tuple of its fields
abbrev pub refuting_code : {B : Type 0} → Coded B → Coded (Refuting B)
refuting_code {B} code =
    code_by (B × (List (List SatLit) × Option ℕ)) (coded× code (coded× (coded_list (coded_list literal_code)) (coded_option coded_ℕ)))
    (λ r. (r.base, (r.taken, r.room)))
    (λ p. record { base = p.0; taken = p.1.0; room = p.1.1 })
    (λ _. refl)

-- whether the last of these clauses is empty
abbrev pub ends_empty : List (List SatLit) → Bool
ends_empty [] = false
ends_empty (clause ∷ []) = is_empty clause
ends_empty (clause ∷ next ∷ clauses) = ends_empty (next ∷ clauses)

-- the answer that names a fault, if there is one
abbrev pub answer_of : Option LineFault → Result (Unit {0}) LineFault
answer_of None = Ok tt
answer_of (Some fault) = Err fault

-- What each refuter keeps between the lines.
pub record IsRefuter (formula : Formula) (taken : Stored) (values : Made) (closed : Bool) : Type 0 where
  pub variables : values.variables ≡ formula.variables
  pub none_made : values.made ≡ []
  pub known : All (AreKnown formula.variables) taken.clauses
  pub closed_is : closed ≡ list_any is_empty taken.clauses
  pub last_is : closed ≡ ends_empty taken.clauses
