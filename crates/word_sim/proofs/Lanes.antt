-- One bit of each word: the gates of words are the gates of bits.
use Rattle.std.proofs.Common.{ℕ, zero, suc, cond, ◌%◌, ◌+◌, ◌<◌, ◌≡◌, ◌^◌, ◌-◌, ◌⊎◌, Bool, true, false, ◌&&◌, ◌||◌, eqb, max, bit_or, List, [], ◌∷◌, get_or, map, refl, ap, ◌∙◌, inl, inr, arith, bit_and, bit_xor, min}
use Rattle.std.specs.Int.{bit_at}
use Rattle.std.proofs.lemmas.Nat.Bits.{bit_at_and, bit_at_or, bit_at_xor, bit_at_ones, bit_at-zero, bit_at-lt}
use Rattle.circuits.specs.declared.netlist.Gate.{Gate}
use Rattle.circuits.specs.Literals.{bit, differ, literal_bit}
use Rattle.circuits.specs.Netlists.{Net, with_gates, function_of}
use Rattle.net_core.specs.Values.{KeepsOperations, bits, with_values, words}
use Rattle.net_core.proofs.ValueLemmas.{gates_kept, outputs_kept, with_bits}
use Rattle.word_sim.specs.Columns.{word_bit, lane, literal_word, with_gate_words}

pub two : (n : ℕ) → n < 2 → (n ≡ 0) ⊎ (n ≡ 1)
two zero h = inl refl
two (suc zero) h = inr refl
two (suc (suc n)) h = absurd (omega arith)

-- what holds of the digits of base two: the lesser one, the greater one, and the digit of a sum
by_digits : (P : ℕ → ℕ → Type 0) → P 0 0 → P 0 1 → P 1 0 → P 1 1 → (m n : ℕ) → m < 2 → n < 2 → P m n
by_digits P zeros one other ones m n l k =
    elim (two m l) [
      | inl e ↦ elim (two n k) [ inl f ↦ rw e (rw f zeros) | inr f ↦ rw e (rw f one) ]
      | inr e ↦ elim (two n k) [ inl f ↦ rw e (rw f other) | inr f ↦ rw e (rw f ones) ]
    ]

lesser : (m n : ℕ) → m < 2 → n < 2 → eqb (min m n) 1 ≡ eqb m 1 && eqb n 1
lesser = by_digits (λ m n. eqb (min m n) 1 ≡ eqb m 1 && eqb n 1) refl refl refl refl

greater : (m n : ℕ) → m < 2 → n < 2 → eqb (max m n) 1 ≡ eqb m 1 || eqb n 1
greater = by_digits (λ m n. eqb (max m n) 1 ≡ eqb m 1 || eqb n 1) refl refl refl refl

one_more : (m : ℕ) → m < 2 → eqb ((m + 1) % 2) 1 ≡ differ (eqb m 1) true
one_more m l = elim (two m l) [ inl e ↦ rw e refl | inr e ↦ rw e refl ]

none_more : (m : ℕ) → m < 2 → eqb ((m + 0) % 2) 1 ≡ differ (eqb m 1) false
none_more m l = elim (two m l) [ inl e ↦ rw e refl | inr e ↦ rw e refl ]

pub and-bit : (v a b : ℕ) → word_bit v (bit_and a b) ≡ word_bit v a && word_bit v b
and-bit v a b = ap (λ n. eqb n 1) (bit_at_and a b v) ∙ lesser (bit_at a v) (bit_at b v) (bit_at-lt a v) (bit_at-lt b v)

pub or-bit : (v a b : ℕ) → word_bit v (bit_or a b) ≡ word_bit v a || word_bit v b
or-bit v a b = ap (λ n. eqb n 1) (bit_at_or a b v) ∙ greater (bit_at a v) (bit_at b v) (bit_at-lt a v) (bit_at-lt b v)

pub zero-bit : (v : ℕ) → word_bit v 0 ≡ false
zero-bit v = ap (λ n. eqb n 1) (bit_at-zero v)

pub inverted-bit : (v a : ℕ) (negated : Bool) → v < 64 → word_bit v (bit_xor a (cond negated (2 ^ 64 - 1) 0)) ≡ differ (word_bit v a) negated
inverted-bit v a true h =
    ap (λ n. eqb n 1) (bit_at_xor a (2 ^ 64 - 1) v) ∙ (ap (λ n. eqb ((bit_at a v + n) % 2) 1) (bit_at_ones 64 v h) ∙ one_more (bit_at a v) (bit_at-lt a v))
inverted-bit v a false h =
    ap (λ n. eqb n 1) (bit_at_xor a 0 v) ∙ (ap (λ n. eqb ((bit_at a v + n) % 2) 1) (bit_at-zero v) ∙ none_more (bit_at a v) (bit_at-lt a v))

pub lane-bit : (v : ℕ) (row : List ℕ) (i : ℕ) → word_bit v (get_or row i 0) ≡ bit (lane v row) i
lane-bit v [] i = zero-bit v
lane-bit v (word ∷ row) zero = refl
lane-bit v (word ∷ row) (suc i) = lane-bit v row i

-- the operations of words are those of bits
word-bits : (v : ℕ) → v < 64 → KeepsOperations words bits (word_bit v)
word-bits v h = record {
  absent = zero-bit v;
  signed = λ word negated. inverted-bit v word negated h;
  and = λ one other. and-bit v one other;
}

pub lane-gates : (v : ℕ) (row : List ℕ) (gates : List Gate) → v < 64 → lane v (with_gate_words row gates) ≡ with_gates (lane v row) gates
lane-gates v row gates h = gates_kept words bits (word_bit v) (word-bits v h) row gates ∙ with_bits (lane v row) gates

-- the outputs' words hold the outputs' bits
pub lane-function : (v : ℕ) (net : Net) (row : List ℕ) → v < 64 → lane v (map (literal_word (with_gate_words (0 ∷ row) net.gates)) net.outputs) ≡ function_of net (lane v row)
lane-function v net row h =
    let constant : lane v (0 ∷ row) ≡ false ∷ lane v row = ap (λ b. b ∷ lane v row) (zero-bit v) in
    outputs_kept words bits (word_bit v) (word-bits v h) net (0 ∷ row) ∙ ap (λ values. map (literal_bit values) net.outputs) (ap (λ values. with_values bits values net.gates) constant ∙ with_bits (false ∷ lane v row) net.gates)
