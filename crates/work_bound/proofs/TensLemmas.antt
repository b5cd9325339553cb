-- Powers of ten that are at least what is enough.
use Rattle.std.proofs.Common.{◌≡◌, ℕ, zero, suc, ◌+◌, ◌*◌, ◌/◌, ◌%◌, ◌^◌, ◌≤◌, cond, Bool, true, false, length, sym, ap, subst, ◌∙◌, arith}
use Rattle.std.proofs.Math.Nat.{div-add-mod, le-mul_of_pos_right, mul_assoc, mul_comm, mul-le-mul, mul-suc, pow-le-pow_left, pow-le-pow_right, pow-suc, pow-zero}
use Rattle.std.proofs.lemmas.Nat.{pow-add}
use Rattle.net_core.specs.Sides.{Graphs}
use Rattle.oracle_core.specs.Enough.{claims_of, enough, have_as_many, lines_enough, matches_of}
use Rattle.work_bound.proofs.Radices.{square}

tens_of_both : (a b i j : ℕ) → a ≤ 10 ^ i → b ≤ 10 ^ j → a * b ≤ 10 ^ (i + j)
tens_of_both a b i j one other = omega (arith, mul-le-mul one other, pow-add 10 i j)

pow_of_pow : (n i j : ℕ) → n ^ (i * j) ≡ (n ^ i) ^ j
pow_of_pow n i zero = ap (λ k. n ^ k) (omega arith) ∙ (pow-zero n ∙ sym (pow-zero (n ^ i)))
pow_of_pow n i (suc j) =
    ap (λ k. n ^ k) (mul-suc i j) ∙ (pow-add n (i * j) i ∙ (ap (λ x. x * n ^ i) (pow_of_pow n i j) ∙ sym (pow-suc (n ^ i) j)))

tens_of_power : (a i k : ℕ) → a ≤ 10 ^ i → a ^ k ≤ 10 ^ (i * k)
tens_of_power a i k below = omega (arith, pow-le-pow_left below k, pow_of_pow 10 i k)

-- 3^153 is a little less than 10^73
block_of_threes : 3 ^ 153 ≤ 10 ^ 73
block_of_threes = omega arith

-- two threes are less than ten
rest_of_threes : (h : ℕ) → 3 ^ (2 * h) ≤ 10 ^ h
rest_of_threes h = omega (arith, pow_of_pow 3 2 h, pow-le-pow_left {n = 9} {m = 10} (omega arith) h)

pub tens_of_threes : (k : ℕ) → 3 ^ k ≤ 10 ^ (k / 153 * 73 + (k % 153 + 1) / 2)
tens_of_threes k =
    let q = k / 153 in
    let r = k % 153 in
    let h = (r + 1) / 2 in
    let split : 153 * q + r ≡ k = div-add-mod k 153 in
    let blocks : 3 ^ (153 * q) ≤ 10 ^ (73 * q) = omega (arith, pow_of_pow 3 153 q, tens_of_power (3 ^ 153) 73 q block_of_threes) in
    let rest : 3 ^ r ≤ 10 ^ h = omega (arith, pow-le-pow_right {n = 3} (omega arith) {i = r} {j = 2 * h} (omega arith), rest_of_threes h) in
    let both : 3 ^ (153 * q + r) ≤ 10 ^ (73 * q + h) = omega (arith, tens_of_both (3 ^ (153 * q)) (3 ^ r) (73 * q) h blocks rest, pow-add 3 (153 * q) r) in
    let turned : 73 * q + h ≡ q * 73 + h = omega arith in
    subst (λ e. 3 ^ k ≤ 10 ^ e) turned (subst (λ e. 3 ^ e ≤ 10 ^ (73 * q + h)) split both)

-- claims are no more than queries of matchings
inputs_below : (n : ℕ) → n ^ 2 ≤ (2 * n) ^ n
inputs_below zero = omega (arith, square 0, pow-zero (2 * 0))
inputs_below (suc zero) = omega (arith, square 1, pow-suc 2 0, pow-zero 2)
inputs_below (suc (suc n)) =
    let k = suc (suc n) in
    omega (arith, pow-le-pow_left {n = k} {m = 2 * k} (omega arith) 2, pow-le-pow_right {n = 2 * k} (omega arith) {i = 2} {j = k} (omega arith))

outputs_below : (m : ℕ) → m ≤ m * m
outputs_below zero = omega arith
outputs_below (suc m) = le-mul_of_pos_right (suc m) (omega arith)

queries_below : (n m : ℕ) → claims_of n m + matches_of n m ≤ 8 * (m * m) * (2 * n) ^ n
queries_below n m =
    let p = (2 * n) ^ n in
    let claims : 4 * m * n ^ 2 ≤ 4 * (m * m) * p = mul-le-mul (omega (arith, outputs_below m)) (inputs_below n) in
    let matches : 4 * m ^ 2 * p ≡ 4 * (m * m) * p = ap (λ x. 4 * x * p) (square m) in
    let four : 4 * (m * m) * p ≡ 4 * (m * m * p) = mul_assoc 4 (m * m) p in
    let eight : 8 * (m * m) * p ≡ 8 * (m * m * p) = mul_assoc 8 (m * m) p in
    omega (arith, claims, matches, four, eight)

pub tens_of_lines : (n m g i d e : ℕ) → 3 ^ (n + 2 * g + 1) ≤ 10 ^ i → 2 * n ≤ 10 ^ d → m ≤ 10 ^ e → lines_enough n m g ≤ 10 ^ (i + n * d + 2 * e + 1)
tens_of_lines n m g i d e clauses inputs outputs =
    let p = (2 * n) ^ n in
    let feeds : p ≤ 10 ^ (d * n) = tens_of_power (2 * n) d n inputs in
    let pairs : m * m ≤ 10 ^ (e + e) = tens_of_both m m e e outputs outputs in
    let eight : 8 ≤ 10 ^ 1 = omega arith in
    let queries : 8 * (m * m) * p ≤ 10 ^ (1 + (e + e) + d * n) = tens_of_both (8 * (m * m)) p (1 + (e + e)) (d * n) (tens_of_both 8 (m * m) 1 (e + e) eight pairs) feeds in
    let all : 3 ^ (n + 2 * g + 1) * (claims_of n m + matches_of n m) ≤ 10 ^ (i + (1 + (e + e) + d * n)) = tens_of_both (3 ^ (n + 2 * g + 1)) (claims_of n m + matches_of n m) i (1 + (e + e) + d * n) clauses (omega (arith, queries_below n m, queries)) in
    let turned : i + (1 + (e + e) + d * n) ≡ i + n * d + 2 * e + 1 = omega (arith, mul_comm d n) in
    subst (λ x. lines_enough n m g ≤ 10 ^ x) turned all

-- nothing is asked where the ports don't go together
enough_at_most : (graphs : Graphs) → enough graphs ≤ lines_enough graphs.first.inputs (length graphs.first.outputs) (length graphs.first.gates + length graphs.second.gates)
enough_at_most graphs = by_test (have_as_many graphs) (lines_enough graphs.first.inputs (length graphs.first.outputs) (length graphs.first.gates + length graphs.second.gates))
  where
    by_test : (b : Bool) (most : ℕ) → cond b most 0 ≤ most
    by_test true most = omega arith
    by_test false most = omega arith

pub tens_of_graphs : (graphs : Graphs) (n m g tens : ℕ) → n ≡ graphs.first.inputs → m ≡ length graphs.first.outputs → g ≡ length graphs.first.gates + length graphs.second.gates → lines_enough n m g ≤ 10 ^ tens → enough graphs ≤ 10 ^ tens
tens_of_graphs graphs n m g tens inputs outputs gates below =
    let same = ap (λ k. lines_enough k m g) inputs ∙ (ap (λ k. lines_enough graphs.first.inputs k g) outputs ∙ ap (lines_enough graphs.first.inputs (length graphs.first.outputs)) gates) in
    omega (arith, enough_at_most graphs, same, below)
