-- Claims of two circuits are given by five digits.
use Rattle.std.proofs.Common.{◌≡◌, ℕ, ◌*◌, ◌^◌, ◌<◌, cond, Bool, true, false, List, [], ◌∷◌, slice_index_or, refl, sym, ap, subst, ◌∙◌, arith}
use Rattle.std.proofs.Math.Nat.{mul_assoc}
use Rattle.net_core.specs.declared.graphs.Side.{Side}
use Rattle.net_core.specs.declared.graphs.Side.TheVariants.{First, Second}
use Rattle.claim_core.specs.declared.claims.Shape.{Shape}
use Rattle.claim_core.specs.declared.claims.Shape.TheVariants.{Up, Down, Swap}
use Rattle.claim_core.specs.declared.claims.Claim.{Claim}
use Rattle.claim_core.specs.Claims.{IsPlaced}
use Rattle.oracle_core.specs.Enough.{claims_of}
use Rattle.work_bound.proofs.Radices.{square, AreDigits, number, number_below, product, same_digits}

abbrev pub bit_digit : Bool → ℕ
bit_digit b = cond b 1 0

pub bit_small : (b : Bool) → bit_digit b < 2
bit_small true = omega arith
bit_small false = omega arith

pub same_bit : (a b : Bool) → bit_digit a ≡ bit_digit b → a ≡ b
same_bit true true e = refl
same_bit true false e = absurd (omega (arith, e))
same_bit false true e = absurd (omega (arith, e))
same_bit false false e = refl

abbrev side_digit : Side → ℕ
side_digit First = 0
side_digit Second = 1

side_small : (side : Side) → side_digit side < 2
side_small First = omega arith
side_small Second = omega arith

same_side : (a b : Side) → side_digit a ≡ side_digit b → a ≡ b
same_side First First e = refl
same_side First Second e = absurd (omega (arith, e))
same_side Second First e = absurd (omega (arith, e))
same_side Second Second e = refl

-- a shape of one input has it twice; a swap has the lesser input first where that one is false, else last
abbrev first_digit : Shape → ℕ
first_digit (Up i) = i
first_digit (Down i) = i
first_digit (Swap i j true b) = j
first_digit (Swap i j false b) = i

abbrev second_digit : Shape → ℕ
second_digit (Up i) = i
second_digit (Down i) = i
second_digit (Swap i j true b) = i
second_digit (Swap i j false b) = j

abbrev third_digit : Shape → ℕ
third_digit (Up i) = 0
third_digit (Down i) = 1
third_digit (Swap i j true b) = bit_digit b
third_digit (Swap i j false b) = bit_digit b

first_small : (n : ℕ) (shape : Shape) → IsPlaced n shape → first_digit shape < n
first_small n (Up i) placed = placed
first_small n (Down i) placed = placed
first_small n (Swap i j true b) placed = placed.1
first_small n (Swap i j false b) placed = omega (arith, placed.0, placed.1)

second_small : (n : ℕ) (shape : Shape) → IsPlaced n shape → second_digit shape < n
second_small n (Up i) placed = placed
second_small n (Down i) placed = placed
second_small n (Swap i j true b) placed = omega (arith, placed.0, placed.1)
second_small n (Swap i j false b) placed = placed.1

third_small : (shape : Shape) → third_digit shape < 2
third_small (Up i) = omega arith
third_small (Down i) = omega arith
third_small (Swap i j true b) = bit_small b
third_small (Swap i j false b) = bit_small b

same_swap : (a : Bool) (i j k l : ℕ) (b c : Bool) → i ≡ k → j ≡ l → b ≡ c → Swap i j a b ≡ Swap k l a c
same_swap a i j k l b c first second bit = ap (λ x. Swap x j a b) first ∙ (ap (λ x. Swap k x a b) second ∙ ap (λ x. Swap k l a x) bit)

same_shape : (n : ℕ) (s t : Shape) → IsPlaced n s → IsPlaced n t → first_digit s ≡ first_digit t → second_digit s ≡ second_digit t → third_digit s ≡ third_digit t → s ≡ t
same_shape n (Up i) (Up k) p q first second third = ap Up first
same_shape n (Up i) (Down k) p q first second third = absurd (omega (arith, third))
same_shape n (Up i) (Swap k l true c) p q first second third = absurd (omega (arith, first, second, q.0))
same_shape n (Up i) (Swap k l false c) p q first second third = absurd (omega (arith, first, second, q.0))
same_shape n (Down i) (Up k) p q first second third = absurd (omega (arith, third))
same_shape n (Down i) (Down k) p q first second third = ap Down first
same_shape n (Down i) (Swap k l true c) p q first second third = absurd (omega (arith, first, second, q.0))
same_shape n (Down i) (Swap k l false c) p q first second third = absurd (omega (arith, first, second, q.0))
same_shape n (Swap i j true b) (Up k) p q first second third = absurd (omega (arith, first, second, p.0))
same_shape n (Swap i j true b) (Down k) p q first second third = absurd (omega (arith, first, second, p.0))
same_shape n (Swap i j true b) (Swap k l true c) p q first second third = same_swap true i j k l b c second first (same_bit b c third)
same_shape n (Swap i j true b) (Swap k l false c) p q first second third = absurd (omega (arith, first, second, p.0, q.0))
same_shape n (Swap i j false b) (Up k) p q first second third = absurd (omega (arith, first, second, p.0))
same_shape n (Swap i j false b) (Down k) p q first second third = absurd (omega (arith, first, second, p.0))
same_shape n (Swap i j false b) (Swap k l true c) p q first second third = absurd (omega (arith, first, second, p.0, q.0))
same_shape n (Swap i j false b) (Swap k l false c) p q first second third = same_swap false i j k l b c first second (same_bit b c third)

abbrev claim_radices : ℕ → ℕ → List ℕ
claim_radices n m = 2 ∷ m ∷ n ∷ n ∷ 2 ∷ []

abbrev claim_digits : Claim → List ℕ
claim_digits claim = side_digit claim.side ∷ claim.output ∷ first_digit claim.shape ∷ second_digit claim.shape ∷ third_digit claim.shape ∷ []

-- the number of a claim among those of two circuits of n inputs and m outputs
abbrev pub claim_number : ℕ → ℕ → Claim → ℕ
claim_number n m claim = number (claim_radices n m) (claim_digits claim)

-- A claim of one of m outputs, and of some of n inputs.
pub record IsAmong (n m : ℕ) (claim : Claim) : Type 0 where
  pub output : claim.output < m
  pub placed : IsPlaced n claim.shape

are_digits : (n m : ℕ) (claim : Claim) → IsAmong n m claim → AreDigits (claim_radices n m) (claim_digits claim)
are_digits n m claim is = (side_small claim.side, (is.output, (first_small n claim.shape is.placed, (second_small n claim.shape is.placed, (third_small claim.shape, tt)))))

claims_counted : (n m : ℕ) → product (claim_radices n m) ≡ claims_of n m
claims_counted n m =
    let pairs : n * (n * 2) ≡ n * n * 2 = sym (mul_assoc n n 2) in
    let each : m * (n * (n * 2)) ≡ m * (n * n) * 2 = ap (λ x. m * x) pairs ∙ sym (mul_assoc m (n * n) 2) in
    let square : 4 * m * n ^ 2 ≡ 4 * (m * (n * n)) = ap (λ x. 4 * m * x) (square n) ∙ mul_assoc 4 m (n * n) in
    omega (arith, each, square)

pub claim_number_below : (n m : ℕ) (claim : Claim) → IsAmong n m claim → claim_number n m claim < claims_of n m
claim_number_below n m claim is = subst (λ most. claim_number n m claim < most) (claims_counted n m) (number_below (claim_radices n m) (claim_digits claim) (are_digits n m claim is))

same_fields : (one other : Claim) → one.side ≡ other.side → one.output ≡ other.output → one.shape ≡ other.shape → one ≡ other
same_fields one other side output shape =
    ap (λ (s : Side). record one { side = s }) side
    ∙ (ap (λ (k : ℕ). record one { side = other.side; output = k }) output
    ∙ ap (λ (s : Shape). record one { side = other.side; output = other.output; shape = s }) shape)

pub same_claim : (n m : ℕ) (one other : Claim) → IsAmong n m one → IsAmong n m other → claim_number n m one ≡ claim_number n m other → one ≡ other
same_claim n m one other is also same =
    let digits = same_digits (claim_radices n m) (claim_digits one) (claim_digits other) (are_digits n m one is) (are_digits n m other also) same in
    let at : (k : ℕ) → slice_index_or (claim_digits one) k 0 ≡ slice_index_or (claim_digits other) k 0 = λ k. ap (λ xs. slice_index_or xs k 0) digits in
    same_fields one other (same_side one.side other.side (at 0)) (at 1) (same_shape n one.shape other.shape is.placed also.placed (at 2) (at 3) (at 4))
