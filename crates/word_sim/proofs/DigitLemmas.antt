-- Each bit of the words that alternate is looked at.
use Rattle.std.proofs.Common.{ℕ, zero, suc, ◌<◌, ◌≡◌, ◌/◌, ◌%◌, ◌^◌, Bool, true, ◌&&◌, eqb, List, [], ◌∷◌, get_or, refl, subst, inl, inr, arith}
use Rattle.std.specs.Bool.{beq}
use Rattle.std.specs.Cmp.{booleans_Decides}
use Rattle.std.proofs.lemmas.Bool.{and_parts, cases_lt}
use Rattle.word_sim.specs.Columns.{word_bit}

below : ℕ → (ℕ → Bool) → Bool
below zero p = true
below (suc n) p = p n && below n p

below-each : (n : ℕ) (p : ℕ → Bool) → below n p ≡ true → (k : ℕ) → k < n → p k ≡ true
unfolding below
below-each zero p h k l = absurd (omega arith)
below-each (suc n) p h k l =
    let both = and_parts (p n) (below n p) h in
    elim (cases_lt k n) [
      | inl less ↦ below-each n p both.1 k less
      | inr past ↦ let e : n ≡ k = omega arith in subst (λ k. p k ≡ true) e both.0
    ]

-- bit v of word i is digit i of v in base two
abbrev pub alternating_words : List ℕ
alternating_words = 12297829382473034410 ∷ 14757395258967641292 ∷ 17361641481138401520 ∷ 18374966859414961920 ∷ 18446462603027742720 ∷ 18446744069414584320 ∷ []

abbrev is_digit : ℕ → ℕ → Bool
is_digit i v = beq (word_bit v (get_or alternating_words i 0)) (eqb (v / 2 ^ i % 2) 1)

are_digits : below 6 (λ i. below 64 (is_digit i)) ≡ true
unfolding below
are_digits = refl

pub alternating-digits : (i v : ℕ) → i < 6 → v < 64 → word_bit v (get_or alternating_words i 0) ≡ eqb (v / 2 ^ i % 2) 1
alternating-digits i v h l =
    (booleans_Decides (word_bit v (get_or alternating_words i 0)) (eqb (v / 2 ^ i % 2) 1)).0 (below-each 64 (is_digit i) (below-each 6 (λ i. below 64 (is_digit i)) are_digits i h) v l)
