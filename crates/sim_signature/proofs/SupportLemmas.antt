-- The bits of words, and which inputs signals reach.
use Rattle.std.proofs.Common.{◌≡◌, ◌≢◌, ◌⊎◌, ℕ, suc, ◌+◌, ◌-◌, ◌*◌, ◌%◌, ◌^◌, ◌<◌, ◌≤◌, ◌==◌, eqb, ◌||◌, Bool, false, List, [], ◌∷◌, ◌++◌, length, map, drop, slice_index_or, bit_or, inl, inr, sym, ap, ◌∙◌, arith, eq-eqb}
use Rattle.std.specs.Prelude.{cond, filter}
use Rattle.std.specs.List.{range_with_len}
use Rattle.std.proofs.lemmas.Bool.{ne_eqb, cases_eq}
use Rattle.net_core.specs.Graph.{AreInOrder}
use Rattle.std.proofs.lemmas.Nat.{pow_below}
use Rattle.std.proofs.lemmas.Nat.Bits.{bit_at-pow_same, bit_at-pow_other}
use Rattle.std.proofs.Math.Nat.{mod-eq_of_lt}
use Rattle.std.proofs.lemmas.List.{append_assoc, get_or-map, length-map, map_push, map-id, get_or_default}
use Rattle.std.proofs.lemmas.List.FromFn.{filter_of_map_range_with_len_more, map-range_with_len_more}
use Rattle.std.proofs.Math.Seq.{drop-cons}
use Rattle.circuits.specs.declared.netlist.Gate.{Gate}
use Rattle.circuits.specs.declared.netlist.Lit.{Lit}
use Rattle.circuits.specs.Literals.{bit, signal_of}
use Rattle.circuits.specs.Netlists.{Net}
use Rattle.claim_core.specs.Formulas.{reaching}
use Rattle.word_sim.specs.Columns.{lane, word_bit}
use Rattle.word_sim.proofs.Lanes.{lane-bit, or-bit, zero-bit}
use Rattle.sim_signature.specs.Supports.{IsBlock, only_input, output_reaches, reaches_input}

-- the word of an input has the one bit
pub one_bit : (first input v : ℕ) → first ≤ input → input < first + 64 → word_bit v (1 * 2 ^ (input - first) % 18446744073709551616) ≡ (input == first + v)
one_bit first input v after within =
    let k = input - first in
    let small : k < 64 = omega (arith, after, within) in
    let fits : 1 * 2 ^ k < 18446744073709551616 = omega (arith, pow_below k 64 small) in
    let value : 1 * 2 ^ k % 18446744073709551616 ≡ 2 ^ k = mod-eq_of_lt fits ∙ omega arith in
    ap (word_bit v) value ∙ by_place (cases_eq v k)
  where
    by_place : (v ≡ input - first) ⊎ (v ≢ input - first) → word_bit v (2 ^ (input - first)) ≡ (input == first + v)
    by_place (inl e) =
        let n : input ≡ first + v = omega (arith, after, e) in
        ap (λ j. word_bit j (2 ^ (input - first))) e ∙ (ap (λ m. eqb m 1) (bit_at-pow_same (input - first)) ∙ sym (eq-eqb input (first + v) n))
    by_place (inr other) =
        let apart : input ≢ first + v = λ e. other (omega (arith, e)) in
        ap (λ m. eqb m 1) (bit_at-pow_other (input - first) v other) ∙ sym (ne_eqb input (first + v) apart)

-- one input more
pub inputs_more : (first v n : ℕ) (old words : List ℕ) (word : ℕ) → lane v words ≡ lane v old ++ map (λ k. k == first + v) (range_with_len 0 n) → word_bit v word ≡ (n == first + v) → lane v (words ++ word ∷ []) ≡ lane v old ++ map (λ k. k == first + v) (range_with_len 0 (n + 1))
inputs_more first v n old words word so_far is =
    let test : ℕ → Bool = λ k. k == first + v in
    map_push (word_bit v) words word
    ∙ (ap (λ bits. bits ++ word_bit v word ∷ []) so_far
    ∙ (append_assoc (lane v old) (map test (range_with_len 0 n)) (word_bit v word ∷ [])
    ∙ ap (λ bits. lane v old ++ bits) (ap (λ b. map test (range_with_len 0 n) ++ b ∷ []) is ∙ sym (map-range_with_len_more test 0 n n (omega arith)))))

-- one gate more
pub gates_more : (v n t : ℕ) (words : List ℕ) (gates : List Gate) (d : Gate) (first second a b : ℕ) (whole : List Bool) → AreInOrder n gates → length words ≡ n + t → t < length gates → first ≡ signal_of (slice_index_or gates t d).a → second ≡ signal_of (slice_index_or gates t d).b → a ≡ slice_index_or words first a → b ≡ slice_index_or words second b → reaching (lane v words) (drop t gates) ≡ whole → reaching (lane v (words ++ bit_or a b ∷ [])) (drop (t + 1) gates) ≡ whole
gates_more v n t words gates d first second a b whole order count within first_is second_is a_is b_is so_far =
    let gate = slice_index_or gates t d in
    let below : first < length words = omega (arith, order.first_operands t d within, first_is, count) in
    let below_too : second < length words = omega (arith, order.second_operands t d within, second_is, count) in
    let left : word_bit v a ≡ bit (lane v words) (signal_of gate.a) = ap (word_bit v) (a_is ∙ get_or_default words first a 0 below) ∙ (lane-bit v words first ∙ ap (bit (lane v words)) first_is) in
    let right : word_bit v b ≡ bit (lane v words) (signal_of gate.b) = ap (word_bit v) (b_is ∙ get_or_default words second b 0 below_too) ∙ (lane-bit v words second ∙ ap (bit (lane v words)) second_is) in
    let bits : word_bit v (bit_or a b) ≡ (bit (lane v words) (signal_of gate.a) || bit (lane v words) (signal_of gate.b)) = or-bit v a b ∙ (ap (λ x. x || word_bit v b) left ∙ ap (λ x. bit (lane v words) (signal_of gate.a) || x) right) in
    let split : drop t gates ≡ gate ∷ drop (suc t) gates = drop-cons gates t d within in
    let next : t + 1 ≡ suc t = omega arith in
    ap (λ k. reaching (lane v (words ++ bit_or a b ∷ [])) (drop k gates)) next
    ∙ (ap (λ bs. reaching bs (drop (suc t) gates)) (map_push (word_bit v) words (bit_or a b) ∙ ap (λ x. lane v words ++ x ∷ []) bits)
    ∙ (sym (ap (reaching (lane v words)) split) ∙ so_far))

-- the words of the outputs are a block
pub block_is : (net : Net) (first : ℕ) (start inputs words list : List ℕ) → start ≡ 0 ∷ [] → ((v : ℕ) → v < 64 → lane v inputs ≡ lane v start ++ map (λ k. k == first + v) (range_with_len 0 net.inputs)) → ((v : ℕ) → lane v words ≡ reaching (lane v inputs) net.gates) → list ≡ map (λ literal. slice_index_or words (signal_of literal) 0) net.outputs → IsBlock net first list
block_is net first start inputs words list start_is inputs_are words_are list_is = record {
  outputs = ap length list_is ∙ length-map net.outputs (λ literal. slice_index_or words (signal_of literal) 0);
  bits = λ k v d below small.
      let literal : Lit = slice_index_or net.outputs k (record { 0 = 0 }) in
      let none : Lit = record { 0 = 0 } in
      let base : lane v inputs ≡ false ∷ only_input net.inputs (first + v) = inputs_are v small ∙ (ap (λ ws. lane v ws ++ only_input net.inputs (first + v)) start_is ∙ ap (λ b. b ∷ only_input net.inputs (first + v)) (zero-bit v)) in
      let bits : lane v words ≡ reaches_input net (first + v) = words_are v ∙ ap (λ bs. reaching bs net.gates) base in
      ap (λ ws. word_bit v (slice_index_or ws k d)) list_is
      ∙ (ap (word_bit v) (get_or-map (λ (l : Lit). slice_index_or words (signal_of l) 0) net.outputs k none d below)
      ∙ (lane-bit v words (signal_of literal) ∙ ap (λ bs. bit bs (signal_of literal)) bits));
}

-- the inputs below one that are reached, and it
pub reached_more : (net : Net) (output input : ℕ) (inputs more : List ℕ) (reached : Bool) → inputs ≡ filter (output_reaches net output) (range_with_len 0 input) → reached ≡ output_reaches net output input → more ≡ inputs ++ cond reached (input ∷ []) [] → more ≡ filter (output_reaches net output) (range_with_len 0 (input + 1))
reached_more net output input inputs more reached before told is =
    let p = output_reaches net output in
    is
    ∙ (ap (λ l. l ++ cond reached (input ∷ []) []) before
    ∙ (ap (λ b. filter p (range_with_len 0 input) ++ cond b (input ∷ []) []) told
    ∙ (ap (λ l. filter p l ++ cond (p input) (input ∷ []) []) (sym (map-id (range_with_len 0 input)))
    ∙ (sym (filter_of_map_range_with_len_more p (λ k. k) 0 input input (omega arith))
    ∙ ap (filter p) (map-id (range_with_len 0 (input + 1)))))))
