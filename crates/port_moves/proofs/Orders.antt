-- A netlist in order stays in order under other places and signs of its ports.
use Rattle.std.proofs.Common.{◌≡◌, ℕ, ◌+◌, ◌-◌, ◌<◌, Bool, true, false, List, length, map, get_or, All, inl, inr, refl, sym, ap, subst, ◌∙◌, arith}
use Rattle.std.proofs.lemmas.Bool.{cases_lt}
use Rattle.std.proofs.lemmas.List.{length-map, get_or-map}
use Rattle.circuits.specs.declared.netlist.Lit.{Lit}
use Rattle.circuits.specs.declared.netlist.Gate.{Gate}
use Rattle.circuits.specs.Literals.{signal_of, is_negated, differ, false_literal}
use Rattle.circuits.specs.Netlists.{Net, IsOrdered, signals_of}
use Rattle.circuits.specs.Bijections.{IsSignedBijection, place_of, sign_of}
use Rattle.circuits.proofs.Places.{IsSignedBijection-onto}
use Rattle.port_moves.specs.Moved.{signed, moved_literal, moved_gate, AreMovedOutputs}
use Rattle.port_moves.proofs.MovedLiterals.{moved_constant, moved_later, moved_input, input_signal}

moved_below : (p : List (ℕ × Bool)) (bound : ℕ) (lit : Lit) → All (λ entry. entry.0 < length p) p → length p < bound → signal_of lit < bound → signal_of (moved_literal p lit) < bound
moved_below p bound lit places room h =
    elim (cases_lt (length p) (signal_of lit)) [
      | inl later ↦ omega (arith, h, ap signal_of (moved_later p lit later))
      | inr few ↦ elim (cases_lt 0 (signal_of lit)) [
        | inl some ↦
            let i = signal_of lit - 1 in
            let place = places i (0, false) (omega (arith, some, few)) in
            omega (arith, room, place, ap signal_of (moved_input p lit (λ none. omega (arith, none, some)) few), input_signal (place_of p i) (differ (is_negated lit) (sign_of p i)))
        | inr none ↦ omega (arith, h, ap signal_of (moved_constant p lit (omega (arith, none))))
      ]
    ]

signed_signal : (sign : Bool) (lit : Lit) → signal_of (signed sign lit) ≡ signal_of lit
signed_signal true lit = omega arith
signed_signal false lit = refl

pub moved_ordered : (first second : Net) (p q : List (ℕ × Bool)) → IsOrdered first → IsSignedBijection first.inputs p → IsSignedBijection (length first.outputs) q → second.inputs ≡ first.inputs → second.gates ≡ map (moved_gate p) first.gates → AreMovedOutputs p q first.outputs second.outputs → IsOrdered second
moved_ordered first second p q ordered inputs outputs same_inputs gates moves =
    let places : All (λ entry. entry.0 < length p) p = λ i d h. omega (arith, inputs.in_range i d h, inputs.entries) in
    let none : Gate = record { a = false_literal; b = false_literal } in
    let count : length second.gates ≡ length first.gates = ap length gates ∙ length-map first.gates (moved_gate p) in
    record {
      first_operands = λ t d h.
          let here : t < length first.gates = omega (arith, h, count) in
          let is = ap (λ gs. get_or gs t d) gates ∙ get_or-map (moved_gate p) first.gates t none d here in
          subst (λ (gate : Gate). signal_of gate.a < 1 + second.inputs + t) (sym is)
          (omega (arith, same_inputs, moved_below p (1 + first.inputs + t) (get_or first.gates t none).b places (omega (arith, inputs.entries)) (ordered.second_operands t none here)));
      second_operands = λ t d h.
          let here : t < length first.gates = omega (arith, h, count) in
          let is = ap (λ gs. get_or gs t d) gates ∙ get_or-map (moved_gate p) first.gates t none d here in
          subst (λ (gate : Gate). signal_of gate.b < 1 + second.inputs + t) (sym is)
          (omega (arith, same_inputs, moved_below p (1 + first.inputs + t) (get_or first.gates t none).a places (omega (arith, inputs.entries)) (ordered.first_operands t none here)));
      outputs = λ j d h.
          let there : j < length first.outputs = omega (arith, h, moves.count) in
          let from = IsSignedBijection-onto (length first.outputs) q outputs j there in
          let i = from.0 in
          let here : i < length first.outputs = omega (arith, from.1, outputs.entries) in
          let is = ap (λ k. get_or second.outputs k d) (sym from.2) ∙ moves.each i d from.1 in
          let moved = moved_literal p (get_or first.outputs i d) in
          let signal : signal_of (get_or second.outputs j d) ≡ signal_of moved = ap signal_of is ∙ signed_signal (sign_of q i) moved in
          let below = moved_below p (signals_of first) (get_or first.outputs i d) places (omega (arith, inputs.entries)) (ordered.outputs i d here) in
          omega (arith, same_inputs, count, signal, below);
    }
