-- Numbers in groups of seven bits: one more group, and that the front of a text has one number at most.
use Rattle.std.proofs.Common.{◌≡◌, ℕ, suc, ◌+◌, ◌-◌, ◌*◌, ◌^◌, ◌<◌, ◌≤◌, List, [], ◌∷◌, ◌++◌, length, refl, sym, ap, ◌∙◌, subst, lit<, arith}
use Rattle.std.proofs.Math.Nat.{pow-le-pow_right, pow-succ'}
use Rattle.aiger_reader.specs.Deltas.{IsInGroups, BeginsGroups, BeginsDelta}

-- a group in front of others
pub more_groups : (byte high : ℕ) (groups : List ℕ) → 128 ≤ byte → IsInGroups groups high → IsInGroups (byte ∷ groups) (byte - 128 + 128 * high)
more_groups byte high [] above value = absurd value
more_groups byte high (next ∷ groups) above value = (above, high, refl, value)

-- the groups at the front of a text are one row, and of one number
pub one_row : (a b x y : List ℕ) (m n : ℕ) → IsInGroups a m → IsInGroups b n → a ++ x ≡ b ++ y → (m ≡ n) × (x ≡ y)
one_row [] b x y m n one other same = absurd one
one_row a [] x y m n one other same = absurd other
one_row (p ∷ []) (q ∷ []) x y m n one other same = (cc (one.1, other.1), cc)
one_row (p ∷ []) (q ∷ s ∷ qs) x y m n one other same =
    let e : p ≡ q = cc in
    absurd (omega (arith, one.0, other.0))
one_row (p ∷ r ∷ ps) (q ∷ []) x y m n one other same =
    let e : p ≡ q = cc in
    absurd (omega (arith, one.0, other.0))
one_row (p ∷ r ∷ ps) (q ∷ s ∷ qs) x y m n one other same =
    let tails = one_row (r ∷ ps) (s ∷ qs) x y one.1 other.1 one.3 other.3 (cc) in
    let e : p ≡ q = cc in
    (omega (arith, one.2, other.2, tails.0), tails.1)

-- a delta at the front of the bytes
pub one_delta : (bytes others x y : List ℕ) (m n : ℕ) → bytes ≡ others → BeginsDelta bytes m x → BeginsDelta others n y → (m ≡ n) × (x ≡ y)
one_delta bytes others x y m n same one other =
    one_row one.groups other.groups x y m n one.value other.value (sym one.spelled ∙ (same ∙ other.spelled))

pub delta_same : (bytes x y : List ℕ) (m n : ℕ) → BeginsDelta bytes m x → BeginsDelta bytes n y → (m ≡ n) × (x ≡ y)
delta_same bytes x y m n = one_delta bytes bytes x y m n refl

-- a last group
pub last_group : (most byte n : ℕ) (bytes rest : List ℕ) → bytes ≡ byte ∷ rest → byte < 128 → n ≡ byte → 0 < most → BeginsGroups most bytes n rest
last_group most byte n bytes rest here below same some = record {
  groups = byte ∷ [];
  spelled = here;
  value = (below, same);
  short = omega arith;
}

-- a group with others after it
pub group_before : (most less byte low high : ℕ) (bytes middle rest : List ℕ) → bytes ≡ byte ∷ middle → 128 ≤ byte → low ≡ byte - 128 → most ≡ less + 1 → BeginsGroups less middle high rest → BeginsGroups most bytes (low + 128 * high) rest
group_before most less byte low high bytes middle rest here above same count after = record {
  groups = byte ∷ after.groups;
  spelled = here ∙ ap (λ xs. byte ∷ xs) after.spelled;
  value = subst (λ n. IsInGroups (byte ∷ after.groups) (n + 128 * high)) (sym same) (more_groups byte high after.groups above after.value);
  short = omega (arith, after.short);
}

-- what stands after a group that isn't the last
after_group : (byte n : ℕ) (groups middle rest : List ℕ) → byte ∷ middle ≡ groups ++ rest → 128 ≤ byte → IsInGroups groups n → (others : List ℕ) × (high : ℕ) × (middle ≡ others ++ rest) × IsInGroups others high × (length groups ≡ length others + 1)
after_group byte n [] middle rest same above value = absurd value
after_group byte n (one ∷ []) middle rest same above value =
    let e : byte ≡ one = cc in
    absurd (omega (arith, value.0))
after_group byte n (one ∷ two ∷ groups) middle rest same above value =
    (two ∷ groups, value.1, cc, value.3, omega arith)

pub no_group_after : (most less byte n : ℕ) (bytes middle rest : List ℕ) → bytes ≡ byte ∷ middle → 128 ≤ byte → most ≡ less + 1 → ((m : ℕ) (left : List ℕ) → BeginsGroups less middle m left → ⊥) → BeginsGroups most bytes n rest → ⊥
no_group_after most less byte n bytes middle rest here above count none all =
    let other = after_group byte n all.groups middle rest (sym here ∙ all.spelled) above all.value in
    none other.1 rest (record { groups = other.0; spelled = other.2; value = other.3; short = omega (arith, other.4, all.short) })

-- a number of four groups is below 2 to the 28
pub four_groups : (k n : ℕ) → k ≤ 4 → n < 128 ^ k → n < 2 ^ 28
four_groups k n few below =
    let most : 128 ^ k ≤ 128 ^ 4 = pow-le-pow_right {n = 128} (lit< tt) {i = k} {j = 4} few in
    omega arith

-- one group more
pub power_more : (most less : ℕ) → most ≡ less + 1 → 128 ^ most ≡ 128 * 128 ^ less
power_more most less count =
    let e : most ≡ suc less = omega arith in
    ap (λ k. 128 ^ k) e ∙ pow-succ' 128 less

-- a byte below 128 is in the range
pub last_in_range : (most n : ℕ) → 0 < most → n < 128 → n < 128 ^ most
last_in_range most n some below =
    let least : 128 ^ 1 ≤ 128 ^ most = pow-le-pow_right {n = 128} (lit< tt) {i = 1} {j = most} (omega arith) in
    omega arith
