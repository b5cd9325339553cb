-- One group of a number, and the groups of the rest.
use Rattle.std.proofs.Common.{◌≡◌, ◌⊎◌, ℕ, zero, suc, ◌+◌, ◌-◌, ◌*◌, ◌/◌, ◌%◌, ◌^◌, ◌<◌, ◌≤◌, [], ◌∷◌, inl, inr, refl, arith}
use Rattle.std.proofs.lemmas.Bool.{le-ltb, lt-ltb}
use Rattle.std.proofs.Math.Nat.{mul-div-le}
use native.Mathlib.Numerals.{unary_clauses}
use Rattle.text_core.specs.Groups.{groups}

pub groups_next : (more n : ℕ) → 0 < more → 128 ≤ n → groups more n ≡ (128 + n % 128) ∷ groups (more - 1) (n / 128)
groups_next zero n some high = absurd (omega (arith, some))
groups_next (suc more) n some high =
    let less : suc more - 1 ≡ more = omega arith in
    rw (le-ltb n 128 high, less) refl

pub groups_last : (more n : ℕ) → (more ≡ 0) ⊎ (n < 128) → groups more n ≡ n ∷ []
groups_last zero n last = refl
groups_last (suc more) n (inl none) = absurd (omega (arith, none))
groups_last (suc more) n (inr below) = rw (lt-ltb n 128 below) refl

pub groups_fit : (more n : ℕ) → 0 < more → n < 128 * 128 ^ more → n / 128 < 128 * 128 ^ (more - 1)
groups_fit zero n some fits = absurd (omega (arith, some))
groups_fit (suc more) n some fits =
    let less : suc more - 1 ≡ more = omega arith in
    let power : 128 ^ suc more ≡ 128 ^ more * 128 = simp unary_clauses refl in
    rw less (omega (arith, fits, power, mul-div-le n 128))
