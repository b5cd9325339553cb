-- Numbers by digits, each of which is below a radix of its own.
use Rattle.std.proofs.Common.{◌≡◌, ℕ, zero, suc, ◌+◌, ◌*◌, ◌^◌, ◌<◌, List, [], ◌∷◌, length, replicate, All, refl, sym, ap, subst, ◌∙◌, arith}
use Rattle.std.proofs.Math.Nat.{mul_comm, pow-suc, pow-succ', pow-zero}
use Rattle.std.proofs.lemmas.Nat.{mul-add-lt, same_from_place}
use Rattle.std.proofs.lemmas.List.Elements.{All-tail}

pub square : (n : ℕ) → n ^ 2 ≡ n * n
square n =
    let one : n ^ 1 ≡ n = pow-suc n 0 ∙ (ap (λ x. x * n) (pow-zero n) ∙ omega arith) in
    pow-suc n 1 ∙ ap (λ x. x * n) one

-- how many numbers have digits by these radices
abbrev pub product : List ℕ → ℕ
product [] = 1
product (radix ∷ radices) = radix * product radices

abbrev pub number : List ℕ → List ℕ → ℕ
number [] digits = 0
number (radix ∷ radices) [] = 0
number (radix ∷ radices) (digit ∷ digits) = digit * product radices + number radices digits

-- a digit for each radix, which is below it
abbrev pub AreDigits : List ℕ → List ℕ → Type 0
AreDigits [] [] = Unit {0}
AreDigits [] (digit ∷ digits) = ⊥
AreDigits (radix ∷ radices) [] = ⊥
AreDigits (radix ∷ radices) (digit ∷ digits) = (digit < radix) × AreDigits radices digits

pub number_below : (radices digits : List ℕ) → AreDigits radices digits → number radices digits < product radices
number_below [] [] are = omega arith
number_below [] (digit ∷ digits) are = absurd are
number_below (radix ∷ radices) [] are = absurd are
number_below (radix ∷ radices) (digit ∷ digits) are =
    subst (λ most. digit * product radices + number radices digits < most) (mul_comm (product radices) radix)
    (mul-add-lt digit (product radices) (number radices digits) radix are.0 (number_below radices digits are.1))

pub same_digits : (radices one other : List ℕ) → AreDigits radices one → AreDigits radices other → number radices one ≡ number radices other → one ≡ other
same_digits [] [] [] are also same = refl
same_digits [] [] (e ∷ other) are also same = absurd also
same_digits [] (d ∷ one) other are also same = absurd are
same_digits (radix ∷ radices) [] other are also same = absurd are
same_digits (radix ∷ radices) (d ∷ one) [] are also same = absurd also
same_digits (radix ∷ radices) (d ∷ one) (e ∷ other) are also same =
    let parts = same_from_place d (number radices one) e (number radices other) (product radices) (number_below radices one are.1) (number_below radices other also.1) same in
    ap (λ x. x ∷ one) parts.0 ∙ ap (λ xs. e ∷ xs) (same_digits radices one other are.1 also.1 parts.1)

-- digits of one radix
pub product-replicate : (n radix : ℕ) → product (replicate n radix) ≡ radix ^ n
product-replicate zero radix = sym (pow-zero radix)
product-replicate (suc n) radix = ap (λ p. radix * p) (product-replicate n radix) ∙ sym (pow-succ' radix n)

pub digits-replicate : (radix : ℕ) (digits : List ℕ) → All (λ digit. digit < radix) digits → AreDigits (replicate (length digits) radix) digits
digits-replicate radix [] below = tt
digits-replicate radix (digit ∷ digits) below = (below 0 digit (omega arith), digits-replicate radix digits (All-tail (λ d. d < radix) digit digits below))
