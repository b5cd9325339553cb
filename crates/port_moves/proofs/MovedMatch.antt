-- A netlist and the one that it becomes under other places and signs of its ports: the matching is a match.
use Rattle.std.proofs.Common.{◌≡◌, ℕ, ◌<◌, Bool, true, false, not, List, [], ◌∷◌, ◌++◌, length, map, get_or, refl, sym, ap, subst, ◌∙◌, arith}
use Rattle.std.proofs.lemmas.List.{get_or-map}
use Rattle.circuits.specs.declared.netlist.Lit.{Lit}
use Rattle.circuits.specs.declared.netlist.Gate.{Gate}
use Rattle.circuits.specs.Literals.{bit, differ, signal_of, literal_bit, inverse}
use Rattle.circuits.specs.Netlists.{Net, IsOrdered, gate_bit, with_gates, valuation_of, function_of}
use Rattle.circuits.specs.Bijections.{IsSignedBijection, moved, place_of, sign_of}
use Rattle.circuits.specs.Matches.{IsMatchOfFunctions}
use Rattle.circuits.proofs.Expansions.{literal_bit-inverse}
use Rattle.circuits.proofs.Places.{moved-moves}
use Rattle.circuits.proofs.Valuations.{ReadsBelow, ReadsBelow-tail, first_operand, second_operand, length-with_gates}
use Rattle.port_moves.specs.Moved.{signed, moved_literal, moved_gate, AreMovedOutputs}
use Rattle.port_moves.proofs.MovedLiterals.{AreAlike, alike_inputs, alike_gate, alike_more}

alike_gates : (p : List (ℕ × Bool)) (v w : List Bool) (gates : List Gate) → AreAlike p v w → ReadsBelow (length v) first_operand gates → ReadsBelow (length v) second_operand gates → AreAlike p (with_gates v gates) (with_gates w (map (moved_gate p) gates))
alike_gates p v w [] alike a b = alike
alike_gates p v w (gate ∷ gates) alike a b =
    let value = gate_bit v gate in
    let same = alike_gate p v w gate alike (omega (arith, a 0 gate (omega arith))) (omega (arith, b 0 gate (omega arith))) in
    let next = alike_gates p (v ++ value ∷ []) (w ++ value ∷ []) gates (alike_more p v w value alike) (ReadsBelow-tail v value first_operand gate gates a) (ReadsBelow-tail v value second_operand gate gates b) in
    subst (λ bit. AreAlike p (with_gates (v ++ value ∷ []) gates) (with_gates (w ++ bit ∷ []) (map (moved_gate p) gates))) (sym same) next

inverted_bit : (v : List Bool) (lit : Lit) → literal_bit v (inverse lit) ≡ differ (literal_bit v lit) true
inverted_bit v lit = literal_bit-inverse v lit ∙ other (literal_bit v lit)
  where
    other : (b : Bool) → not b ≡ differ b true
    other true = refl
    other false = refl

signed_bit : (v : List Bool) (sign : Bool) (lit : Lit) → literal_bit v (signed sign lit) ≡ differ (literal_bit v lit) sign
signed_bit v true lit = inverted_bit v lit
signed_bit v false lit = plain (literal_bit v lit)
  where
    plain : (b : Bool) → b ≡ differ b false
    plain true = refl
    plain false = refl

pub undone : (b s : Bool) → b ≡ differ (differ b s) s
undone true true = refl
undone true false = refl
undone false true = refl
undone false false = refl

pub moved_match : (first second : Net) (p q : List (ℕ × Bool)) → IsOrdered first → IsSignedBijection first.inputs p → IsSignedBijection (length first.outputs) q → second.inputs ≡ first.inputs → second.gates ≡ map (moved_gate p) first.gates → AreMovedOutputs p q first.outputs second.outputs → IsMatchOfFunctions first second p q
moved_match first second p q ordered inputs outputs same_inputs gates moves = record {
  same_inputs = same_inputs;
  same_outputs = moves.count;
  inputs = inputs;
  outputs = outputs;
  agree = λ x long k h.
      let y = moved p x in
      let v = valuation_of first x in
      let w = valuation_of second y in
      let bijection : IsSignedBijection (length x) p = subst (λ n. IsSignedBijection n p) (sym long) inputs in
      let start = alike_inputs p x y bijection.entries (λ i d there. omega (arith, bijection.in_range i d there, bijection.entries)) (moved-moves p x bijection) in
      let alike : AreAlike p v w = subst (λ gs. AreAlike p v (with_gates (false ∷ y) gs)) (sym gates)
      (alike_gates p (false ∷ x) (false ∷ y) first.gates start (λ t d there. omega (arith, ordered.first_operands t d there, long)) (λ t d there. omega (arith, ordered.second_operands t d there, long))) in
      let place = place_of q k in
      let none : Lit = record { 0 = 0 } in
      let output = get_or first.outputs k none in
      let there : k < length first.outputs = omega (arith, h, outputs.entries) in
      let here : place < length second.outputs = omega (arith, outputs.in_range k (0, false) h, moves.count) in
      let wide : signal_of output < length v = omega (arith, ordered.outputs k none there, long, length-with_gates (false ∷ x) first.gates) in
      let sent : bit (function_of second y) place ≡ differ (literal_bit v output) (sign_of q k) =
      get_or-map (literal_bit w) second.outputs place none false here
      ∙ ap (literal_bit w) (moves.each k none h)
      ∙ signed_bit w (sign_of q k) (moved_literal p output)
      ∙ ap (λ b. differ b (sign_of q k)) (alike.each output wide) in
      get_or-map (literal_bit v) first.outputs k none false there
      ∙ undone (literal_bit v output) (sign_of q k)
      ∙ sym (ap (λ b. differ b (sign_of q k)) sent);
}
