-- Numbers that ascend, each the place of an element that passes a test, are no more than such elements.
use Rattle.std.proofs.Common.{◌≡◌, ℕ, zero, suc, ◌+◌, ◌<◌, ◌≤◌, Bool, true, List, [], ◌∷◌, length, filter, get_or, All, count_by, ap, inl, inr, subst, arith}
use Rattle.std.proofs.lemmas.Bool.{cases_Bool, cases_lt, cond-true, cond-false}
use Rattle.std.proofs.lemmas.List.Sums.{length-filter}
use Rattle.account_core.specs.Tallies.{Ascend}

-- A number is the place of such an element, counted from a number on.
record IsPassing {X : Type 0} (p : X → Bool) (row : List X) (d : X) (from i : ℕ) : Type 0 where
  place : ℕ
  is : i ≡ from + place
  within : place < length row
  passes : p (get_or row place d) ≡ true

module _ {X : Type 0} (p : X → Bool) (x : X) (rest : List X) (d : X) (from i : ℕ) (is : IsPassing p (x ∷ rest) d from i) where
  first_at : (k : ℕ) → i ≡ from + k → p (get_or (x ∷ rest) k d) ≡ true → i ≤ from → p x ≡ true
  first_at zero same passes less = passes
  first_at (suc k) same passes less = absurd (omega (arith, same, less))

  -- that of the first element
  first_passes : i ≤ from → p x ≡ true
  first_passes less = first_at is.place is.is is.passes less

  later_at : (k : ℕ) → i ≡ from + k → k < length (x ∷ rest) → p (get_or (x ∷ rest) k d) ≡ true → from < i → IsPassing p rest d (suc from) i
  later_at zero same within passes less = absurd (omega (arith, same, less))
  later_at (suc k) same within passes less = record { place = k; is = omega (arith, same); within = omega (arith, within); passes = passes }

  -- that of a later one
  later_passes : from < i → IsPassing p rest d (suc from) i
  later_passes less = later_at is.place is.is is.within is.passes less

kept : {X : Type 0} (p : X → Bool) (x : X) (rest : List X) → p x ≡ true → length (filter p (x ∷ rest)) ≡ suc (length (filter p rest))
kept p x rest e = ap length (cond-true (p x) (x ∷ filter p rest) (filter p rest) e)

no_fewer : {X : Type 0} (p : X → Bool) (x : X) (rest : List X) → length (filter p rest) ≤ length (filter p (x ∷ rest))
no_fewer p x rest =
    elim (cases_Bool (p x)) [
      | inl e ↦ omega (arith, kept p x rest e)
      | inr e ↦ omega (arith, ap length (cond-false (p x) (x ∷ filter p rest) (filter p rest) e))
    ]

-- the first number is the least
at_least : (i : ℕ) (numbers : List ℕ) → Ascend (i ∷ numbers) → (k e : ℕ) → k < length (i ∷ numbers) → i ≤ get_or (i ∷ numbers) k e
at_least i numbers ascend zero e below = omega arith
at_least i numbers ascend (suc k) e below = omega (arith, ascend 0 (suc k) e (omega arith) below)

count_from : {X : Type 0} (p : X → Bool) (row : List X) (d : X) (from : ℕ) (numbers : List ℕ) → Ascend numbers → All (IsPassing p row d from) numbers → length numbers ≤ length (filter p row)
count_from p row d from [] ascend all = omega arith
count_from p [] d from (i ∷ numbers) ascend all = absurd (omega (arith, (all 0 0 (omega arith)).within))
count_from p (x ∷ rest) d from (i ∷ numbers) ascend all =
    let here = all 0 0 (omega arith) in
    elim (cases_lt from i) [
      | inl less ↦
          omega (arith, count_from p rest d (suc from) (i ∷ numbers) ascend (λ k e below. later_passes p x rest d from (get_or (i ∷ numbers) k e) (all k e below) (omega (arith, less, at_least i numbers ascend k e below))), no_fewer p x rest)
      | inr past ↦
          omega (arith, count_from p rest d (suc from) numbers (λ j k e less below. ascend (suc j) (suc k) e (omega (arith, less)) (omega (arith, below))) (λ k e below. later_passes p x rest d from (get_or numbers k e) (all (suc k) e (omega (arith, below))) (omega (arith, ascend 0 (suc k) e (omega arith) (omega (arith, below)), here.is))), kept p x rest (first_passes p x rest d from i here past))
    ]

pub ascending_count : {X : Type 0} (p : X → Bool) (row : List X) (d : X) (numbers : List ℕ) → Ascend numbers → All (λ i. i < length row) numbers → All (λ i. p (get_or row i d) ≡ true) numbers → length numbers ≤ count_by p row
ascending_count p row d numbers ascend within passes =
    subst (λ n. length numbers ≤ n) (length-filter p row) (count_from p row d 0 numbers ascend (λ k e below. record {
      place = get_or numbers k e;
      is = omega arith;
      within = within k e below;
      passes = passes k e below;
    }))
