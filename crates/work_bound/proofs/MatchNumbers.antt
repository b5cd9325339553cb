-- Queries of matchings are given by digits: the first output and its value, the second one with its sign, and where each input
-- goes, with its sign.
use Rattle.std.proofs.Common.{◌≡◌, ℕ, ◌+◌, ◌*◌, ◌^◌, ◌<◌, not, Bool, List, [], ◌∷◌, length, map, replicate, slice_index_or, drop, All, refl, sym, ap, subst, ◌∙◌, arith}
use Rattle.std.proofs.Math.Nat.{mul_assoc, mul_left_comm}
use Rattle.std.proofs.lemmas.List.{length-map}
use Rattle.std.proofs.lemmas.List.Elements.{All-map}
use Rattle.circuits.specs.Literals.{differ}
use Rattle.circuits.specs.Bijections.{place_of, sign_of}
use Rattle.net_core.specs.declared.matching.Matching.{Matching}
use Rattle.claim_core.specs.declared.query.Query.{Query}
use Rattle.claim_core.specs.MatchQueries.{match_query, moved_feed, straight}
use Rattle.net_core.specs.declared.graphs.Side.TheVariants.{First, Second}
use Rattle.oracle_core.specs.Enough.{matches_of}
use Rattle.work_bound.proofs.Radices.{AreDigits, digits-replicate, number, number_below, product, product-replicate, same_digits, square}
use Rattle.work_bound.proofs.ClaimNumbers.{bit_digit, bit_small, same_bit}

-- where an input goes, and whether inverted
abbrev entry_digit : ℕ × Bool → ℕ
entry_digit entry = 2 * entry.0 + bit_digit entry.1

entry_small : (n : ℕ) (entry : ℕ × Bool) → entry.0 < n → entry_digit entry < 2 * n
entry_small n entry within = omega (arith, within, bit_small entry.1)

same_entry : (one other : ℕ × Bool) → entry_digit one ≡ entry_digit other → one ≡ other
same_entry one other same =
    let bits : bit_digit one.1 ≡ bit_digit other.1 = omega (arith, same, bit_small one.1, bit_small other.1) in
    let places : one.0 ≡ other.0 = omega (arith, same, bits) in
    ap (pair_with one.1) places ∙ ap (pair_of other.0) (same_bit one.1 other.1 bits)
  where
    pair_with : Bool → ℕ → ℕ × Bool
    pair_with b k = (k, b)

    pair_of : ℕ → Bool → ℕ × Bool
    pair_of k b = (k, b)

same_entries : (one other : List (ℕ × Bool)) → map entry_digit one ≡ map entry_digit other → one ≡ other
same_entries [] [] same = refl
same_entries [] (f ∷ other) same = absurd (cc same)
same_entries (e ∷ one) [] same = absurd (cc same)
same_entries (e ∷ one) (f ∷ other) same =
    ap (λ x. x ∷ one) (same_entry e f (ap (λ xs. slice_index_or xs 0 0) same)) ∙ ap (λ xs. f ∷ xs) (same_entries one other (ap (drop 1) same))

abbrev match_radices : ℕ → ℕ → List ℕ
match_radices n m = m ∷ 2 ∷ m ∷ 2 ∷ replicate n (2 * n)

abbrev match_digits : Matching → ℕ → Bool → List ℕ
match_digits matching k value =
    k ∷ bit_digit value ∷ place_of matching.outputs k ∷ bit_digit (sign_of matching.outputs k) ∷ map entry_digit matching.inputs

-- the number of a query among those of matchings of two circuits of n inputs and m outputs
abbrev pub match_number : ℕ → ℕ → Matching → ℕ → Bool → ℕ
match_number n m matching k value = number (match_radices n m) (match_digits matching k value)

-- One of m outputs, and where a matching sends it and each of n inputs.
pub record IsSent (n m : ℕ) (matching : Matching) (k : ℕ) : Type 0 where
  pub output : k < m
  pub place : place_of matching.outputs k < m
  pub inputs : length matching.inputs ≡ n
  pub places : All (λ entry. entry.0 < n) matching.inputs

are_digits : (n m : ℕ) (matching : Matching) (k : ℕ) (value : Bool) → IsSent n m matching k → AreDigits (match_radices n m) (match_digits matching k value)
are_digits n m matching k value is =
    let each : All (λ digit. digit < 2 * n) (map entry_digit matching.inputs) = All-map (λ digit. digit < 2 * n) entry_digit matching.inputs (λ i d within. entry_small n (slice_index_or matching.inputs i d) (is.places i d within)) in
    let count : length (map entry_digit matching.inputs) ≡ n = length-map matching.inputs entry_digit ∙ is.inputs in
    let digits = subst (λ count. AreDigits (replicate count (2 * n)) (map entry_digit matching.inputs)) count (digits-replicate (2 * n) (map entry_digit matching.inputs) each) in
    (is.output, (bit_small value, (is.place, (bit_small (sign_of matching.outputs k), digits))))

matches_counted : (n m : ℕ) → product (match_radices n m) ≡ matches_of n m
matches_counted n m =
    let p = (2 * n) ^ n in
    let inputs : m * (2 * product (replicate n (2 * n))) ≡ m * (2 * p) = ap (λ x. m * (2 * x)) (product-replicate n (2 * n)) in
    let second : m * (2 * p) ≡ 2 * (m * p) = mul_left_comm m 2 p in
    let first : m * (2 * (2 * (m * p))) ≡ 4 * (m * (m * p)) = mul_left_comm m 2 (2 * (m * p)) ∙ (ap (λ x. 2 * x) (mul_left_comm m 2 (m * p)) ∙ omega arith) in
    let squared : 4 * m ^ 2 * p ≡ 4 * (m * (m * p)) = mul_assoc 4 (m ^ 2) p ∙ ap (λ x. 4 * x) (ap (λ x. x * p) (square m) ∙ mul_assoc m m p) in
    ap (λ x. m * (2 * x)) (inputs ∙ second) ∙ (first ∙ sym squared)

pub match_number_below : (n m : ℕ) (matching : Matching) (k : ℕ) (value : Bool) → IsSent n m matching k → match_number n m matching k value < matches_of n m
match_number_below n m matching k value is = subst (λ most. match_number n m matching k value < most) (matches_counted n m) (number_below (match_radices n m) (match_digits matching k value) (are_digits n m matching k value is))

-- a query by what its digits say
abbrev query_by : ℕ → ℕ → Bool → ℕ → Bool → List (ℕ × Bool) → Query
query_by n k value place sign inputs = record {
  left = record { side = First; output = k; feed = straight n };
  left_value = value;
  right = record { side = Second; output = place; feed = moved_feed inputs };
  right_value = differ (not value) sign;
}

-- the digits of a query give the query
pub same_match : (n m : ℕ) (one other : Matching) (j k : ℕ) (value also : Bool) → IsSent n m one j → IsSent n m other k → match_number n m one j value ≡ match_number n m other k also → match_query n one j value ≡ match_query n other k also
same_match n m one other j k value also is is_too same =
    let digits = same_digits (match_radices n m) (match_digits one j value) (match_digits other k also) (are_digits n m one j value is) (are_digits n m other k also is_too) same in
    let at : (i : ℕ) → slice_index_or (match_digits one j value) i 0 ≡ slice_index_or (match_digits other k also) i 0 = λ i. ap (λ xs. slice_index_or xs i 0) digits in
    let values = same_bit value also (at 1) in
    let signs = same_bit (sign_of one.outputs j) (sign_of other.outputs k) (at 3) in
    let inputs = same_entries one.inputs other.inputs (ap (drop 4) digits) in
    ap (λ x. query_by n x value (place_of one.outputs j) (sign_of one.outputs j) one.inputs) (at 0)
    ∙ (ap (λ (x : Bool). query_by n k x (place_of one.outputs j) (sign_of one.outputs j) one.inputs) values
    ∙ (ap (λ x. query_by n k also x (sign_of one.outputs j) one.inputs) (at 2)
    ∙ (ap (λ (x : Bool). query_by n k also (place_of other.outputs k) x one.inputs) signs
    ∙ ap (λ xs. query_by n k also (place_of other.outputs k) (sign_of other.outputs k) xs) inputs)))
