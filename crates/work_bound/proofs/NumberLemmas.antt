-- Products that don't fit 64 bits.
use Rattle.std.proofs.Common.{◌≡◌, ℕ, zero, suc, ◌+◌, ◌*◌, ◌^◌, ◌<◌, sym, ap, ◌∙◌, arith}
use Rattle.std.proofs.Math.Nat.{mul_assoc, mul_comm, le-mul_of_pos_right, one-le-pow, pow-zero}
use Rattle.oracle_core.specs.Enough.{claims_of, matches_of}
use Rattle.work_bound.proofs.Radices.{square}

-- a factor doesn't, and the other one isn't 0
pub first_too_large : (a b : ℕ) → 0 < b → (a < 2 ^ 64 → ⊥) → a * b < 2 ^ 64 → ⊥
first_too_large a b some large fits = large (omega (arith, fits, le-mul_of_pos_right a some))

pub second_too_large : (a b : ℕ) → 0 < a → (b < 2 ^ 64 → ⊥) → a * b < 2 ^ 64 → ⊥
second_too_large a b some large fits = first_too_large b a some large (omega (arith, fits, mul_comm a b))

pub feeds_some : (n : ℕ) → 0 < (2 * n) ^ n
feeds_some zero = omega (arith, pow-zero (2 * 0))
feeds_some (suc n) = omega (arith, one-le-pow (suc n) (2 * suc n) (omega arith))

pub pairs_are : (m : ℕ) → 4 * m ^ 2 ≡ 4 * m * m
pairs_are m = ap (λ x. 4 * x) (square m) ∙ sym (mul_assoc 4 m m)

pub pairs_some : (m : ℕ) → 0 < m → 0 < 4 * m ^ 2
pairs_some m some = omega (arith, pairs_are m, le-mul_of_pos_right (4 * m) some, some)

pub queries_some : (n m : ℕ) → 0 < m → 0 < claims_of n m + matches_of n m
queries_some n m some = omega (arith, le-mul_of_pos_right (4 * m ^ 2) (feeds_some n), pairs_some m some)
