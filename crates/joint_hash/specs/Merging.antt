-- Lemmas by which gates of one structure are one (structural hashing, as for and-inverter graphs: Kuehlmann and others,
-- IEEE TCAD 2002).
use Rattle.std.specs.Prelude.{◌≡◌, ◌⊎◌, ℕ, ◌+◌, ◌<◌, ◌≤◌, false, List, [], ◌∷◌, length, All, Contains, None}
use Rattle.std.specs.List.{list_any}
use Rattle.cnf_core.specs.declared.literal.SatLit.{SatLit}
use Rattle.cnf_core.specs.declared.log.LogLine.{LogLine}
use Rattle.cnf_core.specs.Clauses.{Formula, clause_at, opposite}
use Rattle.cnf_core.specs.Derivations.{AreDerived, clauses_of, is_empty, line_fault}
use Rattle.joint_hash.specs.declared.gates.ConeGate.{ConeGate}
use Rattle.joint_hash.specs.Chains.{AreListed}

-- The three clauses of a gate, from its number on: it implies its operands, and they imply it.
pub record HasClauses (clauses : List (List SatLit)) (gate : ConeGate) : Type 0 where
  pub there : gate.id + 2 < length clauses
  pub to_first : clause_at clauses gate.id ≡ opposite gate.output ∷ gate.first ∷ []
  pub to_second : clause_at clauses (gate.id + 1) ≡ opposite gate.output ∷ gate.second ∷ []
  pub from_both : clause_at clauses (gate.id + 2) ≡ gate.output ∷ opposite gate.first ∷ opposite gate.second ∷ []

-- these are numbers of lines, of the clause of variable 0, and of those by which one gate implies its operands, and
-- those of another gate imply it
abbrev pub AreBetween : ℕ → ConeGate → ConeGate → List ℕ → Type 0
AreBetween count start end = AreListed count (0 ∷ start.id ∷ (start.id + 1) ∷ (end.id + 2) ∷ [])

-- A gate of a formula whose last two clauses are those of the outputs.
pub record IsInner (formula : Formula) (gate : ConeGate) : Type 0 where
  pub clauses : HasClauses formula.clauses gate
  pub early : gate.id + 4 < length formula.clauses

-- A line by which a gate implies another one. It rests on the clauses of these two gates and on lines before it alone,
-- so it takes no search: where it rests on lines, these say the same of operands.
pub record IsImplication (formula : Formula) (line : LogLine) : Type 0 where
  pub start : ConeGate
  pub end : ConeGate
  pub is_start : IsInner formula start
  pub is_end : IsInner formula end
  pub clause : (line.clause ≡ opposite start.output ∷ end.output ∷ []) ⊎ (line.clause ≡ end.output ∷ opposite start.output ∷ [])
  pub between : AreBetween (length formula.clauses) start end line.hints

-- Lines that are derived in order from a formula, none of them empty or of more than three literals: by each a gate
-- implies another one.
pub record AreLemmas (formula : Formula) (lines : List LogLine) : Type 0 where
  pub derived : AreDerived formula lines
  pub filled : list_any is_empty (clauses_of lines) ≡ false
  pub short : All (λ clause. length clause ≤ 3) (clauses_of lines)
  pub implications : All (IsImplication formula) lines

-- each clause of some lines is one of others
abbrev pub AreKept : List LogLine → List LogLine → Type 0
AreKept old new = (clause : List SatLit) → Contains (clauses_of old) clause → Contains (clauses_of new) clause

-- Lemmas, and an empty line that is derived by them.
pub record AreClosedBy (formula : Formula) (lemmas : List LogLine) (last : LogLine) : Type 0 where
  pub are : AreLemmas formula lemmas
  pub empty : last.clause ≡ []
  pub derived : line_fault formula (clauses_of lemmas) last ≡ None
