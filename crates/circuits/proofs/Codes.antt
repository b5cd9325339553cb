-- That each vector is one of the numbered ones.
use Rattle.std.proofs.Common.{get_or, ℕ, zero, suc, ◌+◌, ◌*◌, ◌/◌, ◌%◌, ◌^◌, ◌<◌, ◌≡◌, Bool, true, false, eqb, List, [], ◌∷◌, length, refl, sym, ap, ◌∙◌, arith, ext_get_or, pow-suc}
use Rattle.std.proofs.lemmas.List.FromFn.{fill_by_all, length-map-range_with_len, get_or-map-range_with_len}
use Rattle.std.proofs.lemmas.Nat.Bits.{bit_at-suc, bit_at_lowest}
use Rattle.std.proofs.lemmas.Nat.{shr-shr}
use Rattle.std.specs.Int.{bit_at}
use Rattle.circuits.specs.Literals.{bit, vector_of}

-- a bit as a digit
abbrev pub digit_of : Bool → ℕ
digit_of true = 1
digit_of false = 0

-- the number with these binary digits, the lowest first
abbrev pub code_of : List Bool → ℕ
code_of [] = 0
code_of (b ∷ x) = digit_of b + 2 * code_of x

pub digit_of-below : (b : Bool) → digit_of b < 2
digit_of-below true = omega arith
digit_of-below false = omega arith

pub eqb-digit_of : (b : Bool) → eqb (digit_of b) 1 ≡ b
eqb-digit_of true = refl
eqb-digit_of false = refl

pub code_of-below : (x : List Bool) → code_of x < 2 ^ length x
code_of-below [] = omega arith
code_of-below (b ∷ x) =
    omega (arith, code_of-below x, digit_of-below b, pow-suc 2 (length x))

pub half_code : (b : Bool) (n : ℕ) → (digit_of b + 2 * n) / 2 ≡ n
half_code b n = omega (arith, digit_of-below b)

pub low_code : (b : Bool) (n : ℕ) → (digit_of b + 2 * n) % 2 ≡ digit_of b
low_code b n = omega (arith, digit_of-below b)

pub bit_at-code_of : (x : List Bool) (i : ℕ) → i < length x → eqb (bit_at (code_of x) i) 1 ≡ bit x i
bit_at-code_of [] i h = absurd (omega arith)
bit_at-code_of (b ∷ x) zero h =
    ap (λ n. eqb n 1) (bit_at_lowest (code_of (b ∷ x)) ∙ low_code b (code_of x)) ∙ eqb-digit_of b
bit_at-code_of (b ∷ x) (suc i) h =
    ap (λ n. eqb n 1) (bit_at-suc (code_of (b ∷ x)) i ∙ ap (λ n. bit_at n i) (half_code b (code_of x))) ∙ bit_at-code_of x i (omega arith)

pub bit-vector_of : (n code i : ℕ) → i < n → bit (vector_of n code) i ≡ eqb (bit_at code i) 1
bit-vector_of n code i h =
    get_or-map-range_with_len (λ k. eqb (code / 2 ^ k % 2) 1) 0 n i i false h (omega arith)

pub length-vector_of : (n code : ℕ) → length (vector_of n code) ≡ n
length-vector_of n code = length-map-range_with_len (λ k. eqb (code / 2 ^ k % 2) 1) 0 n

pub vector_of-code_of : (x : List Bool) → x ≡ vector_of (length x) (code_of x)
vector_of-code_of x =
    ext_get_or false x (vector_of (length x) (code_of x)) (sym (length-vector_of (length x) (code_of x))) (λ i h. sym (bit-vector_of (length x) (code_of x) i h ∙ bit_at-code_of x i h))

-- one digit fewer
pub quotient_more : (n i : ℕ) → n / 2 ^ i / 2 ≡ n / 2 ^ (i + 1)
quotient_more n i = shr-shr n i 1

-- each bit written is the code's digit there
pub vector_of-from_bits : (x : List Bool) (n code : ℕ) → length x ≡ n → ((k : ℕ) → k < n → get_or x k false ≡ eqb (code / 2 ^ k % 2) 1) → x ≡ vector_of n code
vector_of-from_bits x n code len bits =
    fill_by_all (λ k. eqb (code / 2 ^ k % 2) 1) x n false len bits
