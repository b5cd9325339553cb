-- What writes and comparisons of packed bits come to.
use Rattle.std.proofs.Common.{ℕ, zero, suc, ◌+◌, ◌*◌, ◌<◌, ◌≡◌, ◌≢◌, ◌/◌, ◌%◌, ◌^◌, ◌&&◌, Bool, false, eqb, List, [], ◌∷◌, ◌++◌, length, map, get_or, set, refl, sym, ap, ◌∙◌, inl, inr, arith, nat_eq}
use Rattle.std.specs.Bool.{beq, Decides}
use Rattle.std.specs.Cmp.{booleans_Decides}
use Rattle.std.specs.Cmp.Lexicographic.{pointwise}
use Rattle.std.specs.Int.{bit_at}
use Rattle.std.specs.List.{range_with_len}
use Rattle.std.proofs.lemmas.Bool.{cases_eq, cases_lt, and_parts, and_from, eqb-true, eq-eqb}
use Rattle.std.proofs.lemmas.Bool.Decides.{Decides-eqb, same_from_decides}
use Rattle.std.proofs.lemmas.List.{get_or-set_same, get_or-set_other, ext_get_or}
use Rattle.std.proofs.lemmas.List.FromFn.{length-map-range_with_len, get_or-map-range_with_len, map-range_with_len_more}
use Rattle.std.proofs.lemmas.Nat.Bits.{bit_at-lt, same_from_bits_below}
use Rattle.std.proofs.lemmas.Slice.Eq.{slice_eq-Decides}
use Rattle.bit_list.specs.Packing.{word_bit, packed_bit, bits_of, IsPacked}

pub length-bits_of : (words : List ℕ) (count : ℕ) → length (bits_of words count) ≡ count
length-bits_of words count = length-map-range_with_len (packed_bit words) 0 count

pub get_or-bits_of : (words : List ℕ) (count i : ℕ) → i < count → get_or (bits_of words count) i false ≡ packed_bit words i
get_or-bits_of words count i h = get_or-map-range_with_len (packed_bit words) 0 count i i false h (omega arith)

same-map : (f g : ℕ → Bool) (first n : ℕ) → ((i : ℕ) → i < first + n → f i ≡ g i) → map f (range_with_len first n) ≡ map g (range_with_len first n)
same-map f g first zero same = refl
same-map f g first (suc n) same =
    ap (λ b. b ∷ map f (range_with_len (first + 1) n)) (same first (omega arith)) ∙ ap (λ bits. g first ∷ bits) (same-map f g (first + 1) n (λ i h. same i (omega (arith, h))))

-- one bit more, where the others stay
pub bits-push : (old new : List ℕ) (n : ℕ) (b : Bool) → ((i : ℕ) → i < n → packed_bit new i ≡ packed_bit old i) → packed_bit new n ≡ b → bits_of new (n + 1) ≡ bits_of old n ++ b ∷ []
bits-push old new n b same is =
    map-range_with_len_more (packed_bit new) 0 n n (omega arith) ∙ (ap (λ bits. bits ++ packed_bit new n ∷ []) (same-map (packed_bit new) (packed_bit old) 0 n (λ i h. same i (omega (arith, h)))) ∙ ap (λ c. bits_of old n ++ c ∷ []) is)

pub written-here : (words : List ℕ) (n word : ℕ) → n < 64 * length words → packed_bit (set words (n / 64) word) n ≡ word_bit (n % 64) word
written-here words n word room = ap (word_bit (n % 64)) (get_or-set_same words (n / 64) word 0 (omega (arith, room)))

pub written-elsewhere : (words : List ℕ) (n word i : ℕ) → n < 64 * length words → ((v : ℕ) → v ≢ n % 64 → word_bit v word ≡ word_bit v (get_or words (n / 64) 0)) → i ≢ n → packed_bit (set words (n / 64) word) i ≡ packed_bit words i
written-elsewhere words n word i room others apart =
    elim (cases_eq (i / 64) (n / 64)) [
      | inl same ↦
          let other : i % 64 ≢ n % 64 = λ e. apart (omega (arith, same, e)) in
          ap (λ k. word_bit (i % 64) (get_or (set words (n / 64) word) k 0)) same ∙ (ap (word_bit (i % 64)) (get_or-set_same words (n / 64) word 0 (omega (arith, room))) ∙ (others (i % 64) other ∙ ap (λ k. word_bit (i % 64) (get_or words k 0)) (sym same)))
      | inr other ↦ ap (word_bit (i % 64)) (get_or-set_other words (n / 64) (i / 64) word 0 other)
    ]

-- a digit of base two is given by whether it is 1
digit : (m n : ℕ) → m < 2 → n < 2 → eqb m 1 ≡ eqb n 1 → m ≡ n
digit zero zero l k e = refl
digit zero (suc zero) l k e = absurd (cc e)
digit (suc zero) zero l k e = absurd (cc e)
digit (suc zero) (suc zero) l k e = refl
digit (suc (suc m)) n l k e = absurd (omega (arith, l))
digit m (suc (suc n)) l k e = absurd (omega (arith, k))

word-at : (words : List ℕ) (k v : ℕ) → v < 64 → packed_bit words (64 * k + v) ≡ word_bit v (get_or words k 0)
word-at words k v h =
    let place : (64 * k + v) / 64 ≡ k = omega (arith, h) in
    let within : (64 * k + v) % 64 ≡ v = omega (arith, h) in
    ap (λ j. word_bit ((64 * k + v) % 64) (get_or words j 0)) place ∙ ap (λ j. word_bit j (get_or words k 0)) within

same-words : (a b : List ℕ) → length a ≡ length b → ((k : ℕ) → get_or a k 0 < 2 ^ 64) → ((k : ℕ) → get_or b k 0 < 2 ^ 64) → ((i : ℕ) → packed_bit a i ≡ packed_bit b i) → a ≡ b
same-words a b len small also same =
    ext_get_or 0 a b len (λ k h. same_from_bits_below 64 (get_or a k 0) (get_or b k 0) (small k) (also k) (λ v l.
    digit (bit_at (get_or a k 0) v) (bit_at (get_or b k 0) v) (bit_at-lt (get_or a k 0) v) (bit_at-lt (get_or b k 0) v) (sym (word-at a k v l) ∙ (same (64 * k + v) ∙ word-at b k v l))))

-- equal bits are in equal words
words-of-equal : (a b : List ℕ) (m n : ℕ) → IsPacked a m → IsPacked b n → ((k : ℕ) → get_or a k 0 < 2 ^ 64) → ((k : ℕ) → get_or b k 0 < 2 ^ 64) → bits_of a m ≡ bits_of b n → (m ≡ n) × (a ≡ b)
words-of-equal a b m n packed also small and_small e =
    let as_many : m ≡ n = sym (length-bits_of a m) ∙ (ap length e ∙ length-bits_of b n) in
    let same_bit : (i : ℕ) → packed_bit a i ≡ packed_bit b i = λ i. elim (cases_lt i m) [
      | inl less ↦ sym (get_or-bits_of a m i less) ∙ (ap (λ bits. get_or bits i false) e ∙ get_or-bits_of b n i (omega (arith, less, as_many)))
      | inr past ↦ packed.rest i past ∙ sym (also.rest i (omega (arith, past, as_many)))
    ] in
    (as_many, same-words a b (omega (arith, packed.enough, packed.none_more, also.enough, also.none_more, as_many)) small and_small same_bit)

-- the counts and the words are compared in place of the bits
pub compared : (a b : List ℕ) (m n : ℕ) (same : Bool) → IsPacked a m → IsPacked b n → ((k : ℕ) → get_or a k 0 < 2 ^ 64) → ((k : ℕ) → get_or b k 0 < 2 ^ 64) → same ≡ pointwise nat_eq a b → nat_eq m n && same ≡ pointwise beq (bits_of a m) (bits_of b n)
compared a b m n same packed also small and_small is =
    let words : Decides same (a ≡ b) = slice_eq-Decides Decides-eqb a b same is in
    let both : Decides (nat_eq m n && same) (bits_of a m ≡ bits_of b n) = (
      λ e.
          let parts = and_parts (nat_eq m n) same e in
          ap (λ words. bits_of words m) (words.0 parts.1) ∙ ap (bits_of b) (eqb-true m n parts.0),
      λ e.
          let parts = words-of-equal a b m n packed also small and_small e in
          and_from (nat_eq m n) same (eq-eqb m n parts.0) (words.1 parts.1),
    ) in
    same_from_decides (nat_eq m n && same) (pointwise beq (bits_of a m) (bits_of b n)) both (slice_eq-Decides booleans_Decides (bits_of a m) (bits_of b n) (pointwise beq (bits_of a m) (bits_of b n)) refl)
