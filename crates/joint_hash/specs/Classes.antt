-- Classes of gates of one structure while they are found: what stands for a variable, and the first gate of each class.
use Rattle.std.specs.Prelude.{◌≡◌, ◌&&◌, ◌==◌, ℕ, ◌+◌, ◌%◌, ◌<◌, ◌≤◌, Bool, true, false, List, [], ◌∷◌, ◌++◌, length, Option, None, Some, nat_lt, if◌then◌else◌}
use Rattle.std.specs.Bool.{beq}
use Rattle.std.specs.Map.{lookup}
use Rattle.cnf_core.specs.declared.literal.SatLit.{SatLit}
use Rattle.cnf_core.specs.declared.log.LogLine.{LogLine}
use Rattle.cnf_core.specs.Clauses.{Formula, clause_at, is_negated, opposite, variable_of}
use Rattle.cnf_core.specs.Derivations.{clauses_of, is_same}
use Rattle.net_core.specs.Sides.{Graphs}
use Rattle.claim_core.specs.declared.query.Query.{Query}
use Rattle.claim_core.specs.Formulas.{formula_of, plain}
use Rattle.joint_hash.specs.declared.gates.ConeGate.{ConeGate}
use Rattle.joint_hash.specs.declared.twins.Twin.{Twin}
use Rattle.joint_hash.specs.Chains.{clauses_with}
use Rattle.joint_hash.specs.Merging.{AreLemmas}
use Rattle.joint_hash.specs.Trees.{IsCongruence, IsGateOf}

-- whether the clause of this number is the last of a gate's three
abbrev pub is_last : ℕ → Bool
is_last id = nat_lt 0 id && (id % 3 == 0)

-- what stands for a variable, if anything does but itself
abbrev pub twin_of : List (ℕ × Twin) → ℕ → Option Twin
twin_of entries variable = lookup (λ other. variable == other) entries

-- the literal that stands for a literal: that of its variable's twin, with its sign, or itself
abbrev pub twin_literal : Option Twin → SatLit → SatLit
twin_literal None literal = literal
twin_literal (Some twin) literal = if is_negated literal then opposite twin.first else twin.first

-- the literal of a gate's class that stands for a literal of the query
abbrev pub representative : (ℕ → Option Twin) → SatLit → SatLit
representative twins literal = twin_literal (twins (variable_of literal)) literal

-- two literals, the one of the lesser number first
abbrev pub in_order : SatLit → SatLit → SatLit × SatLit
in_order one other = if nat_lt other.0 one.0 then (other, one) else (one, other)

-- the representatives of a gate's operands
abbrev pub operands_of : (ℕ → Option Twin) → ConeGate → SatLit × SatLit
operands_of twins gate = in_order (representative twins gate.first) (representative twins gate.second)

-- the same two literals in the same order
abbrev pub same_operands : SatLit × SatLit → SatLit × SatLit → Bool
same_operands one other = is_same one.0 other.0 && is_same one.1 other.1

-- the first gate that has these operands
abbrev pub first_with : List ((SatLit × SatLit) × ConeGate) → SatLit × SatLit → Option ConeGate
first_with entries operands = lookup (same_operands operands) entries

-- a gate more is kept under these operands
abbrev pub HasAlso : List ((SatLit × SatLit) × ConeGate)
    → List ((SatLit × SatLit) × ConeGate)
    → SatLit × SatLit
    → ConeGate
    → Type 0
HasAlso old new operands gate = (other : SatLit × SatLit)
    → first_with new other ≡ (if same_operands operands other then Some gate else first_with old other)

-- The lemmas that a variable and what stands for it are equal, among clauses of which the first ones are the formula's.
pub record IsTwin (count : ℕ) (clauses : List (List SatLit)) (variable : ℕ) (twin : Twin) : Type 0 where
  pub late_to : count ≤ twin.to_variable
  pub late_from : count ≤ twin.from_variable
  pub there_to : twin.to_variable < length clauses
  pub there_from : twin.from_variable < length clauses
  pub to_variable : clause_at clauses twin.to_variable ≡ opposite twin.first ∷ plain variable ∷ []
  pub from_variable : clause_at clauses twin.from_variable ≡ twin.first ∷ opposite (plain variable) ∷ []

-- each variable that another literal stands for is shown equal to it by two lemmas
abbrev pub AreTwins : ℕ → List (List SatLit) → (ℕ → Option Twin) → Type 0
AreTwins count clauses twins = (variable : ℕ) (twin : Twin) → twins variable ≡ Some twin → IsTwin count clauses variable twin

-- the lemmas that say what stands for variables come after these clauses
abbrev pub AreLate : ℕ → (ℕ → Option Twin) → Type 0
AreLate count twins = (variable : ℕ) (twin : Twin) → twins variable ≡ Some twin → (count ≤ twin.to_variable) × (count ≤ twin.from_variable)

-- the lemma that a literal implies its representative, or the one that this one implies the literal; none where it
-- stands for itself
abbrev pub lemma_ids : Option Twin → SatLit → Bool → List ℕ
lemma_ids None literal onto = []
lemma_ids (Some twin) literal onto =
    (if beq (is_negated literal) onto then twin.to_variable else twin.from_variable) ∷ []

-- The clauses by which one gate implies another of its class: it implies its operands, these their representatives,
-- those the operands of the other, and these that gate.
abbrev pub chain_ids : (ℕ → Option Twin) → ConeGate → ConeGate → List ℕ
chain_ids twins start end =
    (start.id ∷ (start.id + 1) ∷ [])
    ++ lemma_ids (twins (variable_of start.first)) start.first true
    ++ lemma_ids (twins (variable_of start.second)) start.second true
    ++ lemma_ids (twins (variable_of end.first)) end.first false
    ++ lemma_ids (twins (variable_of end.second)) end.second false
    ++ (end.id + 2) ∷ []

-- Lines and twins after two gates were made one: the lemmas that the first gate implies the other and that this one
-- implies it were added, and the first one stands for the variable of the other.
pub record AreEquated (formula : Formula) (first gate : ConeGate) (old new : List LogLine)
    (old_twins new_twins : ℕ → Option Twin) : Type 0 where
  pub lemmas : AreLemmas formula new
  pub clauses : clauses_of new
      ≡ clauses_of old ++ (opposite first.output ∷ gate.output ∷ []) ∷ (first.output ∷ opposite gate.output ∷ []) ∷ []
  pub twins : (variable : ℕ) → new_twins variable ≡ (if variable_of gate.output == variable then Some (record {
    first = first.output;
    to_variable = length (clauses_with formula old);
    from_variable = length (clauses_with formula old) + 1;
  }) else old_twins variable)

-- A gate that was gone over: its last clause's number is below the limit.
pub record IsVisited (IsGate : ConeGate → Type 0) (limit : ℕ) (gate : ConeGate) : Type 0 where
  pub is_gate : IsGate gate
  pub early : gate.id + 2 < limit

-- A variable has a gate that was gone over.
pub record HasGate (IsGate : ConeGate → Type 0) (limit variable : ℕ) : Type 0 where
  pub gate : ConeGate
  pub visited : IsVisited IsGate limit gate
  pub variable_is : variable_of gate.output ≡ variable

-- A gate is the first with its operands.
pub record IsKept (IsGate : ConeGate → Type 0) (limit : ℕ) (twins : ℕ → Option Twin) (operands : SatLit × SatLit)
    (gate : ConeGate) : Type 0 where
  pub visited : IsVisited IsGate limit gate
  pub operands_are : operands ≡ operands_of twins gate
  pub itself : twins (variable_of gate.output) ≡ None

-- A gate is, or is represented by, the first one with its operands.
pub record IsFound (firsts : SatLit × SatLit → Option ConeGate) (twins : ℕ → Option Twin) (gate : ConeGate) : Type 0 where
  pub first : ConeGate
  pub found : firsts (operands_of twins gate) ≡ Some first
  pub stands : representative twins gate.output ≡ first.output
  pub before : first.id ≤ gate.id

-- What is known of the gates below a limit.
pub record AreMerged (IsGate : ConeGate → Type 0) (limit count : ℕ) (clauses : List (List SatLit))
    (firsts : SatLit × SatLit → Option ConeGate) (twins : ℕ → Option Twin) : Type 0 where
  pub are_twins : AreTwins count clauses twins
  pub have_gates : (variable : ℕ) (twin : Twin) → twins variable ≡ Some twin → HasGate IsGate limit variable
  pub kept : (operands : SatLit × SatLit) (gate : ConeGate)
      → firsts operands ≡ Some gate
      → IsKept IsGate limit twins operands gate
  pub found : (gate : ConeGate) → IsVisited IsGate limit gate → IsFound firsts twins gate
  pub sound : (same : SatLit → SatLit → Bool)
      → IsCongruence IsGate same
      → (literal : SatLit)
      → same literal (representative twins literal) ≡ true

-- The lemmas so far, and what is known of the gates whose clauses are below a number.
pub record IsUnderWay (graphs : Graphs) (query : Query) (limit : ℕ) (lines : List LogLine)
    (firsts : List ((SatLit × SatLit) × ConeGate)) (twins : List (ℕ × Twin)) : Type 0 where
  pub lemmas : AreLemmas (formula_of graphs query) lines
  pub merged : AreMerged (IsGateOf graphs query) limit (length (formula_of graphs query).clauses)
      (clauses_with (formula_of graphs query) lines) (first_with firsts) (twin_of twins)
