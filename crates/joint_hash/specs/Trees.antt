-- Gates that unfold to one tree, and lines by which they are one. A tree is what a literal is over the inputs and the
-- constant once each gate is written as its operands; the operands of a gate may be exchanged.
use Rattle.std.specs.Prelude.{◌≡◌, ◌⊎◌, ℕ, ◌+◌, ◌*◌, ◌<◌, ◌≤◌, Bool, true, List, [], ◌∷◌, length, Contains, slice_index_or}
use Rattle.circuits.specs.declared.netlist.Gate.{Gate}
use Rattle.circuits.specs.Netlists.{Net}
use Rattle.cnf_core.specs.declared.literal.SatLit.{SatLit}
use Rattle.cnf_core.specs.declared.log.LogLine.{LogLine}
use Rattle.cnf_core.specs.Clauses.{opposite}
use Rattle.cnf_core.specs.Derivations.{clauses_of}
use Rattle.net_core.specs.Sides.{Graphs}
use Rattle.net_core.specs.Cones.{ReachesGate}
use Rattle.claim_core.specs.declared.query.Query.{Query}
use Rattle.claim_core.specs.Queries.{circuit_of}
use Rattle.claim_core.specs.Formulas.{formula_of, left_literals, right_literals, stand_in, stands_for}
use Rattle.claim_core.specs.ConeClauses.{left_gates}
use Rattle.joint_hash.specs.declared.gates.ConeGate.{ConeGate}
use Rattle.joint_hash.specs.Merging.{AreLemmas}

-- A gate that output k of a circuit reaches, where the clauses of the circuit's gates are from number `from` on, and
-- these literals stand for its signals.
pub record IsReachedGate (net : Net) (literals : List SatLit) (k from : ℕ) (gate : ConeGate) : Type 0 where
  pub place : ℕ
  pub there : place < length net.gates
  pub reached : ReachesGate net k place
  pub id_is : gate.id ≡ from + 3 * place
  pub output_is : gate.output ≡ stand_in literals (net.inputs + 1 + place)
  pub first_is : (d : Gate) → gate.first ≡ stands_for literals (slice_index_or net.gates place d).a
  pub second_is : (d : Gate) → gate.second ≡ stands_for literals (slice_index_or net.gates place d).b

-- a gate of the left cone or of the right one
abbrev pub IsGateOf : Graphs → Query → ConeGate → Type 0
IsGateOf graphs query gate =
    IsReachedGate (circuit_of graphs query.left) (left_literals graphs query) query.left.output 1 gate
    ⊎ IsReachedGate (circuit_of graphs query.right) (right_literals graphs query) query.right.output (1 + 3 * left_gates graphs query) gate

-- An equivalence of literals that keeps signs, and by which gates are the same where their operands are, in either
-- order (a congruence).
pub record IsCongruence (IsGate : ConeGate → Type 0) (same : SatLit → SatLit → Bool) : Type 0 where
  pub reflexive : (l : SatLit) → same l l ≡ true
  pub symmetric : (l m : SatLit) → same l m ≡ true → same m l ≡ true
  pub transitive : (l m o : SatLit) → same l m ≡ true → same m o ≡ true → same l o ≡ true
  pub opposites : (l m : SatLit) → same l m ≡ true → same (opposite l) (opposite m) ≡ true
  pub gates : (g h : ConeGate)
      → IsGate g
      → IsGate h
      → same g.first h.first ≡ true
      → same g.second h.second ≡ true
      → same g.output h.output ≡ true
  pub exchanged : (g h : ConeGate)
      → IsGate g
      → IsGate h
      → same g.first h.second ≡ true
      → same g.second h.first ≡ true
      → same g.output h.output ≡ true

-- two literals unfold to one tree: each congruence has them as the same, so the least one has
abbrev pub AreOneTree : (ConeGate → Type 0) → SatLit → SatLit → Type 0
AreOneTree IsGate one other = (same : SatLit → SatLit → Bool) → IsCongruence IsGate same → same one other ≡ true

-- a gate is the first of those that unfold to its tree
abbrev pub IsFirst : (ConeGate → Type 0) → ConeGate → Type 0
IsFirst IsGate first = (gate : ConeGate) → IsGate gate → AreOneTree IsGate first.output gate.output → first.id ≤ gate.id

-- Lines say that two literals are equal: the one implies the other, and this one implies it.
pub record AreEqualBy (lines : List LogLine) (one other : SatLit) : Type 0 where
  pub to : Contains (clauses_of lines) (opposite one ∷ other ∷ [])
  pub back : Contains (clauses_of lines) (one ∷ opposite other ∷ [])

-- A gate unfolds to one tree with the first of its class, whose variable it has, or to which lines say that it is
-- equal.
pub record IsJoined (IsGate : ConeGate → Type 0) (lines : List LogLine) (gate : ConeGate) : Type 0 where
  pub first : ConeGate
  pub is_gate : IsGate first
  pub is_first : IsFirst IsGate first
  pub one_tree : AreOneTree IsGate first.output gate.output
  pub joined : (gate.output ≡ first.output) ⊎ AreEqualBy lines first.output gate.output

-- For each gate of a query's cones, the lines have both implications between it and the first gate that unfolds to the
-- same tree. There are none where the two have one variable.
abbrev pub AreJoined : Graphs → Query → List LogLine → Type 0
AreJoined graphs query lines = (gate : ConeGate) → IsGateOf graphs query gate → IsJoined (IsGateOf graphs query) lines gate

-- Lemmas that join the gates of a query's cones.
pub record AreJoining (graphs : Graphs) (query : Query) (lines : List LogLine) : Type 0 where
  pub lemmas : AreLemmas (formula_of graphs query) lines
  pub joined : AreJoined graphs query lines
