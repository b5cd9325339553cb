-- The inverse of a signed bijection is one, and undoes it.
use Rattle.std.proofs.Common.{◌≡◌, ℕ, ◌<◌, Bool, false, List, length, get_or, sym, ap, subst, ◌∙◌, arith, ext_get_or}
use Rattle.std.proofs.lemmas.List.{length-map, get_or_default}
use Rattle.circuits.specs.Literals.{bit, differ, literal_bit}
use Rattle.circuits.specs.Netlists.{Net, function_of, valuation_of}
use Rattle.circuits.specs.Bijections.{IsSignedBijection, moved, place_of, sign_of}
use Rattle.circuits.specs.Matches.{IsMatchOfFunctions}
use Rattle.circuits.proofs.Places.{IsSignedBijection-onto, moved-moves, moved-only, length-moved}
use Rattle.port_moves.specs.Inverses.{IsInverse}
use Rattle.port_moves.specs.Restored.{AreEqual}
use Rattle.port_moves.proofs.MovedMatch.{undone}

-- where the inverse sends a place to which p sends a port
back_of : (n : ℕ) (p q : List (ℕ × Bool)) → IsSignedBijection n p → IsInverse p q → (j : ℕ) → j < n → (i : ℕ) × (i < n) × (place_of p i ≡ j) × (place_of q j ≡ i)
back_of n p q bijection is j h =
    let at = IsSignedBijection-onto n p bijection j h in
    (at.0, omega (arith, at.1, bijection.entries), at.2, ap (place_of q) (sym at.2) ∙ is.back at.0 at.1)

pub inverse_bijection : (n : ℕ) (p q : List (ℕ × Bool)) → IsSignedBijection n p → IsInverse p q → IsSignedBijection n q
inverse_bijection n p q bijection is = record {
  entries = is.entries ∙ bijection.entries;
  in_range = λ j d h.
      let few : j < n = omega (arith, h, is.entries, bijection.entries) in
      let at = back_of n p q bijection is j few in
      omega (arith, at.1, at.3, default_of q j d h);
  distinct = λ j k d before h same.
      let few : k < n = omega (arith, h, is.entries, bijection.entries) in
      let one = back_of n p q bijection is j (omega (arith, before, few)) in
      let other = back_of n p q bijection is k few in
      let alike : one.0 ≡ other.0 =
      sym one.3 ∙ sym (default_of q j d (omega (arith, before, h))) ∙ same ∙ default_of q k d h ∙ other.3 in
      omega (arith, before, sym one.2 ∙ ap (place_of p) alike ∙ other.2);
}
  where
    default_of : (q : List (ℕ × Bool)) (j : ℕ) (d : ℕ × Bool) → j < length q → (get_or q j d).0 ≡ place_of q j
    default_of q j d h = ap (λ (entry : ℕ × Bool). entry.0) (get_or_default q j d (0, false) h)

-- a vector moved, and moved back
pub moved_back : (p q : List (ℕ × Bool)) (x : List Bool) → IsSignedBijection (length x) p → IsInverse p q → moved q (moved p x) ≡ x
moved_back p q x bijection is =
    let y = moved p x in
    let long : length y ≡ length x = length-moved p x in
    let back : IsSignedBijection (length y) q =
    subst (λ n. IsSignedBijection n q) (sym long) (inverse_bijection (length x) p q bijection is) in
    sym (moved-only q y x back (record {
      same_length = sym long;
      bits = λ j h.
          let few : j < length x = omega (arith, h, is.entries, bijection.entries) in
          let at = back_of (length x) p q bijection is j few in
          let i = at.0 in
          let within : i < length p = omega (arith, at.1, bijection.entries) in
          let s = sign_of p i in
          let there : bit y j ≡ differ (bit x i) s = ap (bit y) (sym at.2) ∙ (moved-moves p x bijection).bits i within in
          let sign : sign_of q j ≡ s = ap (sign_of q) (sym at.2) ∙ is.signs i within in
          ap (bit x) at.3
          ∙ undone (bit x i) s
          ∙ sym (ap (λ b. differ b s) there)
          ∙ sym (ap (differ (bit y j)) sign);
    }))

-- what matches back by the inverse is equal
pub restored_equal : (first second graph : Net) (p q back_p back_q : List (ℕ × Bool)) → IsMatchOfFunctions first second p q → IsInverse p back_p → IsInverse q back_q → IsMatchOfFunctions second graph back_p back_q → AreEqual first graph
restored_equal first second graph p q back_p back_q there ins outs back = record {
  inputs = back.same_inputs ∙ there.same_inputs;
  outputs = count;
  functions = λ x long.
      let y = moved p x in
      let inputs : IsSignedBijection (length x) p = subst (λ n. IsSignedBijection n p) (sym long) there.inputs in
      let home : moved back_p y ≡ x = moved_back p back_p x inputs ins in
      let wide : length y ≡ second.inputs = length-moved p x ∙ long ∙ sym there.same_inputs in
      ext_get_or false (function_of graph x) (function_of first x) (outputs_of graph first x count) (λ i h.
      let few : i < length first.outputs = omega (arith, h, long_outputs graph x, count) in
      let within : i < length q = omega (arith, few, there.outputs.entries) in
      let k = place_of q i in
      let s = sign_of q i in
      let at : k < length back_q = omega (arith, there.outputs.in_range i (0, false) within, outs.entries, there.outputs.entries) in
      let one : bit (function_of first x) i ≡ differ (bit (function_of second y) k) s = there.agree x long i within in
      let other : bit (function_of second y) k ≡ differ (bit (function_of graph (moved back_p y)) (place_of back_q k)) (sign_of back_q k) =
      back.agree y wide k at in
      let plain : bit (function_of second y) k ≡ differ (bit (function_of graph x) i) s =
      other
      ∙ ap (λ z. differ (bit (function_of graph z) (place_of back_q k)) (sign_of back_q k)) home
      ∙ ap (λ place. differ (bit (function_of graph x) place) (sign_of back_q k)) (outs.back i within)
      ∙ ap (differ (bit (function_of graph x) i)) (outs.signs i within) in
      undone (bit (function_of graph x) i) s
      ∙ sym (ap (λ b. differ b s) plain)
      ∙ sym one);
}
  where
    count : length graph.outputs ≡ length first.outputs
    count = back.same_outputs ∙ there.same_outputs

    long_outputs : (net : Net) (x : List Bool) → length (function_of net x) ≡ length net.outputs
    long_outputs net x = length-map net.outputs (literal_bit (valuation_of net x))

    outputs_of : (one other : Net) (x : List Bool) → length one.outputs ≡ length other.outputs → length (function_of one x) ≡ length (function_of other x)
    outputs_of one other x same = long_outputs one x ∙ same ∙ sym (long_outputs other x)
