-- Where all inputs are definite, all signals are, and have their bits.
use Rattle.std.proofs.Common.{◌≡◌, ◌≢◌, ℕ, suc, ◌<◌, ◌&&◌, Bool, true, false, List, [], ◌∷◌, ◌++◌, length, map, All, refl, sym, ap, ◌∙◌, arith}
use Rattle.std.proofs.lemmas.List.{length-map, get_or-map, map_push}
use Rattle.circuits.specs.declared.netlist.Lit.{Lit}
use Rattle.circuits.specs.declared.netlist.Gate.{Gate}
use Rattle.circuits.specs.Literals.{bit, differ, signal_of, is_negated, literal_bit}
use Rattle.circuits.specs.Netlists.{Net, IsOrdered, gate_bit, with_gates, function_of}
use Rattle.circuits.proofs.Valuations.{ReadsBelow, first_operand, second_operand, ReadsBelow-tail, ReadsBelow-start, length-with_gates}
use Rattle.word_sim.specs.declared.tri.Tri.TheVariants.{X}
use Rattle.word_sim.specs.ThreeValues.{tri_and, tri_literal, tri_gate, with_tri_gates, tri_outputs, of_bit}
use Rattle.account_core.specs.Vectors.{signed, value_at}

of_and : (a b : Bool) → tri_and (of_bit a) (of_bit b) ≡ of_bit (a && b)
of_and true true = refl
of_and true false = refl
of_and false true = refl
of_and false false = refl

pub of_differ : (b flip : Bool) → signed flip (of_bit b) ≡ of_bit (differ b flip)
of_differ true true = refl
of_differ true false = refl
of_differ false true = refl
of_differ false false = refl

pub of_bit_definite : (b : Bool) → of_bit b ≢ X
of_bit_definite true e = cc
of_bit_definite false e = cc

pub of_bit_same : (a b : Bool) → of_bit a ≡ of_bit b → a ≡ b
of_bit_same true true e = refl
of_bit_same true false e = cc
of_bit_same false true e = cc
of_bit_same false false e = refl

of_literal : (v : List Bool) (literal : Lit) → signal_of literal < length v → tri_literal (map of_bit v) literal ≡ of_bit (literal_bit v literal)
of_literal v literal below =
    ap (signed (is_negated literal)) (get_or-map of_bit v (signal_of literal) false X below) ∙ of_differ (bit v (signal_of literal)) (is_negated literal)

of_gates : (v : List Bool) (gates : List Gate) → ReadsBelow (length v) first_operand gates → ReadsBelow (length v) second_operand gates → with_tri_gates (map of_bit v) gates ≡ map of_bit (with_gates v gates)
of_gates v [] a b = refl
of_gates v (gate ∷ gates) a b =
    let first : 0 < length (gate ∷ gates) = omega arith in
    let one = of_literal v gate.a (omega (arith, a 0 gate first)) in
    let other = of_literal v gate.b (omega (arith, b 0 gate first)) in
    let here : tri_gate (map of_bit v) gate ≡ of_bit (gate_bit v gate) = ap (λ t. tri_and t (tri_literal (map of_bit v) gate.b)) one ∙ (ap (tri_and (of_bit (literal_bit v gate.a))) other ∙ of_and (literal_bit v gate.a) (literal_bit v gate.b)) in
    ap (λ t. with_tri_gates (map of_bit v ++ t ∷ []) gates) here
    ∙ (ap (λ l. with_tri_gates l gates) (sym (map_push of_bit v (gate_bit v gate))) ∙ of_gates (v ++ gate_bit v gate ∷ []) gates (ReadsBelow-tail v (gate_bit v gate) first_operand gate gates a) (ReadsBelow-tail v (gate_bit v gate) second_operand gate gates b))

of_literals : (v : List Bool) (literals : List Lit) → All (λ literal. signal_of literal < length v) literals → map (tri_literal (map of_bit v)) literals ≡ map of_bit (map (literal_bit v) literals)
of_literals v [] below = refl
of_literals v (literal ∷ literals) below =
    ap (λ t. t ∷ map (tri_literal (map of_bit v)) literals) (of_literal v literal (below 0 literal (omega arith)))
    ∙ ap (λ l. of_bit (literal_bit v literal) ∷ l) (of_literals v literals (λ k d h. below (suc k) d (omega arith)))

pub of_outputs : (net : Net) (x : List Bool) → IsOrdered net → length x ≡ net.inputs → tri_outputs net (map of_bit x) ≡ map of_bit (function_of net x)
of_outputs net x ordered size =
    let whole = of_gates (false ∷ x) net.gates (ReadsBelow-start net.inputs x first_operand net.gates size ordered.first_operands) (ReadsBelow-start net.inputs x second_operand net.gates size ordered.second_operands) in
    ap (λ v. map (tri_literal v) net.outputs) whole
    ∙ of_literals (with_gates (false ∷ x) net.gates) net.outputs (λ k d h. omega (arith, ordered.outputs k d h, length-with_gates (false ∷ x) net.gates, size))

-- the value of an output on a vector
pub of_output : (net : Net) (x : List Bool) (k : ℕ) → IsOrdered net → length x ≡ net.inputs → k < length net.outputs → value_at (tri_outputs net (map of_bit x)) k ≡ of_bit (bit (function_of net x) k)
of_output net x k ordered size below =
    ap (λ l. value_at l k) (of_outputs net x ordered size) ∙ get_or-map of_bit (function_of net x) k false X (omega (arith, below, length-map net.outputs (literal_bit (with_gates (false ∷ x) net.gates))))
