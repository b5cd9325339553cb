-- An output has the same bit on two vectors that agree on the inputs that it reaches.
use Rattle.std.proofs.Common.{◌≡◌, ◌≢◌, ℕ, zero, suc, ◌<◌, ◌||◌, not, Bool, true, false, List, [], ◌∷◌, ◌++◌, length, slice_index_or, inl, inr, refl, sym, ap, ◌∙◌, arith}
use Rattle.std.proofs.lemmas.Bool.{cases_lt, false≢true, or_left, or_right}
use Rattle.std.proofs.lemmas.List.{get_or_append_left, get_or_push, get_or-map, get_or-set_other, length-set, length_push}
use Rattle.circuits.specs.declared.netlist.Gate.{Gate}
use Rattle.circuits.specs.declared.netlist.Lit.{Lit}
use Rattle.circuits.specs.Literals.{bit, differ, signal_of, is_negated as inverts, literal_bit}
use Rattle.circuits.specs.Netlists.{Net, IsOrdered, gate_bit, with_gates, valuation_of}
use Rattle.circuits.proofs.Valuations.{ReadsBelow, ReadsBelow-tail, ReadsBelow-start, first_operand, second_operand, length-with_gates}
use Rattle.net_core.specs.Cones.{output_signal}
use Rattle.claim_core.specs.Claims.{output_bit, with_input}
use Rattle.claim_core.specs.Formulas.{reaching}
use Rattle.claim_core.specs.Facts.{InSupport}
use Rattle.sim_signature.specs.Supports.{only_input, output_reaches}
use Rattle.fact_tests.proofs.StructureLemmas.{length-only_input, only_at, operand_marked}
use Rattle.claim_core.proofs.AssignmentLemmas.{gate_agrees}

-- two valuations have the same bit at each signal that only marks inputs of which P is said
abbrev SameWhere : (ℕ → List Bool) → (ℕ → Type 0) → List Bool → List Bool → Type 0
SameWhere marks P v w = (s : ℕ) → s < length v → ((i : ℕ) → bit (marks i) s ≡ true → P i) → bit v s ≡ bit w s

same_more : (marks : ℕ → List Bool) (P : ℕ → Type 0) (v w : List Bool) (gate : Gate) → ((i : ℕ) → length (marks i) ≡ length v) → length w ≡ length v → first_operand gate < length v → second_operand gate < length v → SameWhere marks P v w → SameWhere (λ i. marks i ++ operand_marked (marks i) gate ∷ []) P (v ++ gate_bit v gate ∷ []) (w ++ gate_bit w gate ∷ [])
same_more marks P v w gate counts count a b same s below on =
    elim (cases_lt s (length v)) [
      | inl before ↦
          get_or_append_left v (gate_bit v gate ∷ []) false s before
          ∙ (same s before (λ i is. on i (get_or_append_left (marks i) (operand_marked (marks i) gate ∷ []) false s (omega (arith, before, counts i)) ∙ is))
          ∙ sym (get_or_append_left w (gate_bit w gate ∷ []) false s (omega (arith, before, count))))
      | inr past ↦
          let here : s ≡ length v = omega (arith, past, below, length_push v (gate_bit v gate)) in
          let here_too : s ≡ length w = omega (arith, here, count) in
          let marked : (i : ℕ) → operand_marked (marks i) gate ≡ true → P i = λ i is. on i (get_or_push (marks i) (operand_marked (marks i) gate) false s (counts i ∙ sym here) ∙ is) in
          let one = same (signal_of gate.a) a (λ i is. marked i (or_left (bit (marks i) (signal_of gate.a)) (bit (marks i) (signal_of gate.b)) is)) in
          let other = same (signal_of gate.b) b (λ i is. marked i (or_right (bit (marks i) (signal_of gate.a)) (bit (marks i) (signal_of gate.b)) is)) in
          get_or_push v (gate_bit v gate) false s (sym here) ∙ (gate_agrees v w gate one other ∙ sym (get_or_push w (gate_bit w gate) false s (sym here_too)))
    ]

same_through : (marks : ℕ → List Bool) (P : ℕ → Type 0) (v w : List Bool) (gates : List Gate) → ((i : ℕ) → length (marks i) ≡ length v) → length w ≡ length v → ReadsBelow (length v) first_operand gates → ReadsBelow (length v) second_operand gates → SameWhere marks P v w → SameWhere (λ i. reaching (marks i) gates) P (with_gates v gates) (with_gates w gates)
same_through marks P v w [] counts count a b same = same
same_through marks P v w (gate ∷ gates) counts count a b same =
    let one : first_operand gate < length v = omega (arith, a 0 gate (omega arith)) in
    let other : second_operand gate < length v = omega (arith, b 0 gate (omega arith)) in
    same_through (λ i. marks i ++ operand_marked (marks i) gate ∷ []) P (v ++ gate_bit v gate ∷ []) (w ++ gate_bit w gate ∷ []) gates (λ i. omega (arith, counts i, length_push (marks i) (operand_marked (marks i) gate), length_push v (gate_bit v gate))) (omega (arith, count, length_push w (gate_bit w gate), length_push v (gate_bit v gate))) (ReadsBelow-tail v (gate_bit v gate) first_operand gate gates a) (ReadsBelow-tail v (gate_bit v gate) second_operand gate gates b) (same_more marks P v w gate counts count one other same)

same_inputs : (n : ℕ) (x y : List Bool) → length x ≡ n → SameWhere (λ i. false ∷ only_input n i) (λ i. bit x i ≡ bit y i) (false ∷ x) (false ∷ y)
same_inputs n x y count zero below on = refl
same_inputs n x y count (suc i) below on = on i (only_at n i i (omega (arith, below, count)) refl)

pub same_output : (net : Net) (k : ℕ) (x y : List Bool) → IsOrdered net → k < length net.outputs → length x ≡ net.inputs → length y ≡ net.inputs → ((i : ℕ) → output_reaches net k i ≡ true → bit x i ≡ bit y i) → output_bit net k x ≡ output_bit net k y
same_output net k x y ordered there lx ly agree =
    let none : Lit = record { 0 = 0 } in
    let v = valuation_of net x in
    let w = valuation_of net y in
    let output = slice_index_or net.outputs k none in
    let same = same_through (λ i. false ∷ only_input net.inputs i) (λ i. bit x i ≡ bit y i) (false ∷ x) (false ∷ y) net.gates (λ i. omega (arith, lx, length-only_input net.inputs i)) (omega (arith, lx, ly)) (ReadsBelow-start net.inputs x first_operand net.gates lx ordered.first_operands) (ReadsBelow-start net.inputs x second_operand net.gates lx ordered.second_operands) (same_inputs net.inputs x y lx) in
    let within : output_signal net k < length v = omega (arith, ordered.outputs k none there, length-with_gates (false ∷ x) net.gates, lx) in
    get_or-map (literal_bit v) net.outputs k none false there
    ∙ (ap (λ b. differ b (inverts output)) (same (output_signal net k) within agree) ∙ sym (get_or-map (literal_bit w) net.outputs k none false there))

-- so it depends on no other input
pub unreached_outside : (net : Net) (k i : ℕ) → IsOrdered net → k < length net.outputs → output_reaches net k i ≡ false → InSupport net.inputs (output_bit net k) i → ⊥
unreached_outside net k i ordered there free (x, count, apart) =
    apart (same_output net k x (with_input i (not (bit x i)) x) ordered there count (length-set x i (not (bit x i)) ∙ count) (λ j reached. sym (get_or-set_other x i j (not (bit x i)) false (other j reached))))
  where
    other : (j : ℕ) → output_reaches net k j ≡ true → j ≢ i
    other j reached is = false≢true (sym free ∙ (ap (output_reaches net k) (sym is) ∙ reached))
