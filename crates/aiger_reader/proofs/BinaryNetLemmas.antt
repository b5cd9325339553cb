-- The netlist of the binary form is closed, and has no cycle.
use Rattle.std.proofs.Common.{◌≡◌, ℕ, zero, suc, ◌+◌, ◌-◌, ◌*◌, ◌/◌, ◌<◌, ◌≤◌, true, List, [], ◌∷◌, ◌++◌, length, map, get_or, All, inl, inr, if◌then◌else◌, sym, ap, ap₂, subst, ◌∙◌, arith, append-nil}
use Rattle.std.proofs.lemmas.Bool.{cases_lt}
use Rattle.std.proofs.lemmas.List.{length-map, get_or-map, get_or_default, nil_from_length}
use Rattle.std.proofs.lemmas.List.Elements.{All-nil, All-cons, All-map}
use Rattle.std.proofs.lemmas.Simd.{map-map}
use Rattle.circuits.specs.declared.netlist.Lit.{Lit}
use Rattle.circuits.specs.Literals.{signal_of}
use Rattle.circuits.specs.declared.definition.Def.TheVariants.{Cover}
use Rattle.circuits.specs.Circuits.{Circuit, HasWideRows, IsClosed, named_by, signals_in, signal_at}
use Rattle.circuits.specs.Levels.{IsWithin, IsFirstLooped}
use Rattle.net_core.specs.PlainNets.{IsPlainNet}
use Rattle.aiger_reader.specs.declared.limits.Header.{Header}
use Rattle.aiger_reader.specs.declared.body.AndLine.{AndLine}
use Rattle.aiger_reader.specs.declared.body.Literals.{Literals}
use Rattle.aiger_reader.specs.Headers.{AigerHeader, Begins}
use Rattle.aiger_reader.specs.Bodies.{IsBody, first_of, lit_from}
use Rattle.aiger_reader.specs.Deltas.{BeginsGates, AreGates, and_from, after_outputs, binary_circuit}
use Rattle.aiger_reader.specs.Reading.{rows_of, row_of, input_lines_of, gate_lines_of, HasCounts}
use Rattle.aiger_reader.specs.Numbered.{circuit_from}
use Rattle.aiger_reader.specs.Assembly.{ArePairsBelow, IsBinaryBody}
use Rattle.aiger_reader.proofs.LimitLemmas.{accepted_limits}

-- the operands of the gates are below them
each_more : (f : ℕ × ℕ → ℕ) (variable : ℕ) (gate : ℕ × ℕ) (gates : List (ℕ × ℕ)) → f gate < 2 * variable → ((k : ℕ) (d : ℕ × ℕ) → k < length gates → f (get_or gates k d) < 2 * (variable + 1 + k)) → (k : ℕ) (d : ℕ × ℕ) → k < length (gate ∷ gates) → f (get_or (gate ∷ gates) k d) < 2 * (variable + k)
each_more f variable gate gates first rest zero d below = omega arith
each_more f variable gate gates first rest (suc k) d below =
    let next = rest k d (omega arith) in
    omega (arith, next)

pub begins_below : (variable : ℕ) (bytes rest : List ℕ) (gates : List (ℕ × ℕ)) → BeginsGates variable bytes gates rest → ArePairsBelow variable gates
begins_below variable bytes rest [] begins = record {
  first_operands = λ k d below. absurd (omega arith);
  second_operands = λ k d below. absurd (omega arith);
}
begins_below variable bytes rest (gate ∷ gates) begins =
    let first = begins.2 in
    let second = begins.3 in
    let tail = begins_below (variable + 1) begins.1 rest gates begins.4 in
    record {
      first_operands = each_more (λ pair. pair.0) variable gate gates (omega (arith, first.above, first.operand)) tail.first_operands;
      second_operands = each_more (λ pair. pair.1) variable gate gates (omega (arith, first.above, first.operand, second.operand)) tail.second_operands;
    }

-- the netlist is closed
pub binary_closed : (inputs : ℕ) (gates : List (ℕ × ℕ)) (outputs : List ℕ) → ArePairsBelow (inputs + 1) gates → All (λ literal. literal ≤ 2 * (inputs + length gates) + 1) outputs → IsClosed (circuit_from inputs (map and_from gates) (map lit_from outputs))
binary_closed inputs gates outputs pairs small =
    let below : ℕ → Type 0 = λ s. s < 1 + inputs + length (map and_from gates) in
    let count = length-map gates and_from in
    let both : (gate : ℕ × ℕ) (k : ℕ) → k < length gates → gate.0 < 2 * (inputs + 1 + k) → gate.1 < 2 * (inputs + 1 + k) → All below (named_by (and_from gate)) = λ gate k here a b. All-cons below (gate.0 / 2) (gate.1 / 2 ∷ []) (omega (arith, count)) (All-cons below (gate.1 / 2) [] (omega (arith, count)) (All-nil below)) in
    record {
      defs = All-map (λ def. All below (named_by def)) and_from gates (λ k d here. both (get_or gates k d) k here (pairs.first_operands k d here) (pairs.second_operands k d here));
      rows = All-map HasWideRows and_from gates (λ k d here. tt);
      outputs = All-map (λ output. below (signal_of output)) lit_from outputs (λ k d here. let most = small k d here in omega (arith, count, most));
    }

pub binary_plain : (header : Header) (outputs : List ℕ) (gates : List (ℕ × ℕ)) → IsBinaryBody header outputs gates → IsPlainNet (circuit_from header.inputs (map and_from gates) (map lit_from outputs))
binary_plain header outputs gates body =
    let same : header.variables ≡ header.inputs + length gates = omega (arith, body.no_gaps, body.gates_read) in
    let small = subst (λ n. All (λ literal. literal ≤ 2 * n + 1) outputs) same body.in_range in
    record {
      closed = binary_closed header.inputs gates outputs body.below small;
      signals = omega (arith, body.gates_read, length-map gates and_from, header.few_inputs, header.few_gates);
      outputs = omega (arith, body.outputs_read, length-map outputs lit_from, header.few_outputs);
    }

-- each row begins with a literal in range
row_in_range : (n : ℕ) (row : List ℕ) → All (λ literal. literal ≤ n) row → first_of row ≤ n
row_in_range n [] small = omega arith
row_in_range n (literal ∷ row) small = small 0 0 (omega arith)

-- the netlist of the binary form is closed
pub rows_closed : (bytes : List ℕ) (h : AigerHeader) (rows : List (List ℕ)) (gates : List (ℕ × ℕ)) (rest : List ℕ) → h.binary ≡ true → Begins bytes h → IsBody bytes h rows → AreGates bytes h gates rest → IsClosed (binary_circuit h rows gates)
rows_closed bytes h rows gates rest binary begins body are =
    let most : 2 * h.variables + 1 ≡ 2 * (h.inputs + length gates) + 1 = omega (arith, begins.header.no_gaps binary, (accepted_limits h begins.accepted).latches, are.count) in
    let small : All (λ literal. literal ≤ 2 * (h.inputs + length gates) + 1) (map first_of rows) = All-map (λ literal. literal ≤ 2 * (h.inputs + length gates) + 1) first_of rows (λ k d below. subst (λ n. first_of (get_or rows k d) ≤ n) most (subst (λ row. first_of row ≤ 2 * h.variables + 1) (get_or_default rows k [] d below) (row_in_range (2 * h.variables + 1) (get_or rows k []) (body.good.good k below).in_range))) in
    subst (λ outputs. IsClosed (circuit_from h.inputs (map and_from gates) outputs)) (map-map lit_from first_of rows) (binary_closed h.inputs gates (map first_of rows) (begins_below (h.inputs + 1) (after_outputs bytes h) rest gates are.read) small)

-- the netlist of the outputs' lines
pub binary_is : (h : AigerHeader) (literals : Literals) (gates : List (ℕ × ℕ)) → h.binary ≡ true → HasCounts literals (input_lines_of h) h.outputs (gate_lines_of h) → circuit_from h.inputs (map and_from gates) (map lit_from literals.outputs.items) ≡ binary_circuit h (rows_of literals) gates
binary_is h literals gates binary counts =
    let single : ℕ → List ℕ = λ literal. literal ∷ [] in
    let no_inputs : literals.inputs.items ≡ [] = nil_from_length literals.inputs.items (counts.inputs_read ∙ ap (λ t. if t then 0 else h.inputs) binary) in
    let no_gates : literals.gates.items ≡ [] = nil_from_length literals.gates.items (counts.gates_read ∙ ap (λ t. if t then 0 else h.gates) binary) in
    let outputs = map single literals.outputs.items in
    let rows : rows_of literals ≡ outputs = ap₂ (λ (xs : List ℕ) (ys : List AndLine). map single xs ++ outputs ++ map row_of ys) no_inputs no_gates ∙ append-nil outputs in
    let lit_on : List ℕ → Lit = λ row. lit_from (first_of row) in
    let lits : map lit_from literals.outputs.items ≡ map lit_on (rows_of literals) = sym (map-map lit_on single literals.outputs.items) ∙ ap (map lit_on) (sym rows) in
    ap (circuit_from h.inputs (map and_from gates)) lits

-- each gate of the netlist is within a level
within_level : (circuit : Circuit) (gates : List (ℕ × ℕ)) → circuit.defs ≡ map and_from gates → ArePairsBelow (circuit.inputs + 1) gates → (l s : ℕ) → s < 1 + circuit.inputs + l → s < signals_in circuit → IsWithin circuit l s
within_level circuit gates same pairs zero s small there = omega arith
within_level circuit gates same pairs (suc l) s small there =
    let place = s - (1 + circuit.inputs) in
    let count : length circuit.defs ≡ length gates = ap length same ∙ length-map gates and_from in
    elim (cases_lt s (1 + circuit.inputs)) [
      | inl early ↦ inl early
      | inr late ↦
          let here : place < length gates = omega (arith, count) in
          let gate = get_or gates place (0, 0) in
          let a : gate.0 < 2 * (circuit.inputs + 1 + place) = pairs.first_operands place (0, 0) here in
          let b : gate.1 < 2 * (circuit.inputs + 1 + place) = pairs.second_operands place (0, 0) here in
          let one : IsWithin circuit l (gate.0 / 2) = within_level circuit gates same pairs l (gate.0 / 2) (omega arith) (omega arith) in
          let other : IsWithin circuit l (gate.1 / 2) = within_level circuit gates same pairs l (gate.1 / 2) (omega arith) (omega arith) in
          let all : All (IsWithin circuit l) (named_by (and_from gate)) = All-cons (IsWithin circuit l) (gate.0 / 2) (gate.1 / 2 ∷ []) one (All-cons (IsWithin circuit l) (gate.1 / 2) [] other (All-nil (IsWithin circuit l))) in
          inr (record {
            place = place;
            there = omega (arith, count);
            at = omega arith;
            named = subst (λ def. All (IsWithin circuit l) (named_by def)) (sym (ap (λ defs. get_or defs place (Cover [] [] true)) same ∙ get_or-map and_from gates place (0, 0) (Cover [] [] true) here)) all;
          })
    ]

pub not_looped : (circuit : Circuit) (gates : List (ℕ × ℕ)) (d : ℕ) → circuit.defs ≡ map and_from gates → ArePairsBelow (circuit.inputs + 1) gates → IsFirstLooped circuit d → ⊥
not_looped circuit gates d same pairs looped =
    looped.looped (suc d) (within_level circuit gates same pairs (suc d) (signal_at circuit d) (omega arith) (omega (arith, looped.there)))
