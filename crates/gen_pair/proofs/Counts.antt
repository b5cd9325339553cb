-- How many gates the first outputs have.
use Rattle.std.proofs.Common.{◌≡◌, ℕ, ◌+◌, ◌*◌, min, nat_lt, if◌then◌else◌, inl, inr, ap, ◌∙◌, arith}
use Rattle.std.proofs.lemmas.Bool.{cases_lt, le-ltb, lt-ltb}

pub gates_more : (k n m : ℕ) → n ≡ 62 * k + min k 16 → m ≡ n + (62 + (if nat_lt k 16 then 1 else 0)) → m ≡ 62 * (k + 1) + min (k + 1) 16
gates_more k n m before more =
    elim (cases_lt k 16) [
      | inl low ↦
          let added : m ≡ n + 63 = more ∙ ap (λ b. n + (62 + (if b then 1 else 0))) (lt-ltb k 16 low) in
          omega (arith, added, before, low)
      | inr high ↦
          let added : m ≡ n + 62 = more ∙ ap (λ b. n + (62 + (if b then 1 else 0))) (le-ltb k 16 high) in
          omega (arith, added, before, high)
    ]
