-- A netlist computes the same with the greater operand of each gate first.
use Rattle.std.proofs.Common.{◌≡◌, ℕ, ◌+◌, ◌<◌, min, max, Bool, false, List, [], ◌∷◌, ◌++◌, length, map, get_or, refl, sym, ap, subst, ◌∙◌, inl, inr, arith}
use Rattle.std.proofs.lemmas.Bool.{cases_lt}
use Rattle.std.proofs.lemmas.List.{length-map, get_or-map}
use Rattle.circuits.specs.declared.netlist.Gate.{Gate}
use Rattle.circuits.specs.Literals.{signal_of, literal_bit}
use Rattle.circuits.specs.Netlists.{Net, IsOrdered, gate_bit, with_gates, function_of, output_bits}
use Rattle.circuits.specs.Functions.{Computes, as_circuit}
use Rattle.circuits.proofs.AsCircuit.{as_circuit-computed}
use Rattle.print_laws.specs.Ordered.{greater_first, with_greater_first}
use Rattle.std.proofs.Math.Bool.{and_comm}
use Rattle.aiger_reader.specs.Bodies.{lit_from}

-- the greater first is one order of the two or the other
in_order_or_not : (gate : Gate) (P : Gate → Type 0) → P gate → P (record { a = gate.b; b = gate.a }) → P (greater_first gate)
in_order_or_not gate P same other =
    elim (cases_lt gate.a.0 gate.b.0) [
      | inl less ↦
          let big : max gate.a.0 gate.b.0 ≡ gate.b.0 = omega (arith, less) in
          let small : min gate.a.0 gate.b.0 ≡ gate.a.0 = omega (arith, less) in
          rw (big, small) other
      | inr more ↦
          let big : max gate.a.0 gate.b.0 ≡ gate.a.0 = omega (arith, more) in
          let small : min gate.a.0 gate.b.0 ≡ gate.b.0 = omega (arith, more) in
          rw (big, small) same
    ]

same_bit : (v : List Bool) (gate : Gate) → gate_bit v (greater_first gate) ≡ gate_bit v gate
same_bit v gate =
    in_order_or_not gate (λ other. gate_bit v other ≡ gate_bit v gate) refl (and_comm (literal_bit v gate.b) (literal_bit v gate.a))

same_values : (v : List Bool) (gates : List Gate) → with_gates v (map greater_first gates) ≡ with_gates v gates
same_values v [] = refl
same_values v (gate ∷ gates) =
    ap (λ b. with_gates (v ++ b ∷ []) (map greater_first gates)) (same_bit v gate)
    ∙ same_values (v ++ gate_bit v gate ∷ []) gates

same_function : (net : Net) (x : List Bool) → function_of (with_greater_first net) x ≡ function_of net x
same_function net x = ap (output_bits net) (same_values (false ∷ x) net.gates)

no_gate : Gate
no_gate = record { a = lit_from 0; b = lit_from 0 }

-- both operands of gate t are signals below a bound
abbrev ReadsBelow : ℕ → Gate → Type 0
ReadsBelow bound gate = (signal_of gate.a < bound) × (signal_of gate.b < bound)

reads_below : (net : Net) (t : ℕ) (gate : Gate) → IsOrdered net → t < length (map greater_first net.gates) → ReadsBelow (1 + net.inputs + t) (get_or (map greater_first net.gates) t gate)
reads_below net t gate ordered h =
    let here : t < length net.gates = omega (arith, h, length-map net.gates greater_first) in
    let old = get_or net.gates t no_gate in
    let first = ordered.first_operands t no_gate here in
    let second = ordered.second_operands t no_gate here in
    subst (ReadsBelow (1 + net.inputs + t)) (sym (get_or-map greater_first net.gates t no_gate gate here))
    (in_order_or_not old (ReadsBelow (1 + net.inputs + t)) (first, second) (second, first))

pub ordered_too : (net : Net) → IsOrdered net → IsOrdered (with_greater_first net)
ordered_too net ordered = record {
  first_operands = λ t gate h. (reads_below net t gate ordered h).0;
  second_operands = λ t gate h. (reads_below net t gate ordered h).1;
  outputs = λ k d h. omega (arith, ordered.outputs k d h, length-map net.gates greater_first);
}

pub computes_too : (net : Net) → IsOrdered net → Computes net (as_circuit (with_greater_first net))
computes_too net ordered =
    let other = as_circuit-computed (with_greater_first net) (ordered_too net ordered) in
    record {
      inputs = other.inputs;
      outputs = other.outputs;
      function = λ x v long fits. sym (same_function net x) ∙ other.function x v long fits;
    }
