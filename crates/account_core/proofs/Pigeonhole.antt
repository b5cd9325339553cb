-- The pigeonhole principle: of two lists that together are longer than there are places, one has what a number of the other
-- goes to.
use Rattle.std.proofs.Common.{◌≡◌, ◌≢◌, ◌⊎◌, ℕ, zero, suc, ◌+◌, ◌<◌, ◌≤◌, true, false, ◌||◌, eqb, List, [], ◌∷◌, ◌++◌, length, map, get_or, All, AllPairs, refl, sym, ap, ◌∙◌, inl, inr, arith, eqb-true, ne_eqb, length-append}
use Rattle.std.specs.Prelude.{Contains}
use Rattle.std.specs.List.{AllByRecursion, IsDistinct, list_any}
use Rattle.std.proofs.lemmas.Bool.{cases_Bool, or_cases}
use Rattle.std.proofs.lemmas.Bool.Decides.{Decides-eqb}
use Rattle.std.proofs.lemmas.List.{length-map}
use Rattle.std.proofs.lemmas.Map.Keys.{IsDistinct-cons}
use Rattle.std.proofs.lemmas.Map.Made.{IsDistinct-from_AllPairs}
use Rattle.std.proofs.lemmas.Map.Steps.{length-le_from_distinct_below}
use Rattle.circuits.proofs.LevelOrders.{Contains-from_any}

-- a number of xs, and where it goes in ys
abbrev pub Meets : (ℕ → ℕ) → List ℕ → List ℕ → Type 0
Meets f xs ys = (x : ℕ) × Contains xs x × Contains ys (f x)

-- where each number of xs goes isn't in ys
abbrev pub Misses : (ℕ → ℕ) → List ℕ → List ℕ → Type 0
Misses f xs ys = (k : ℕ) → k < length xs → list_any (eqb (f (get_or xs k 0))) ys ≡ false

meets_or_misses : (f : ℕ → ℕ) (xs ys : List ℕ) → Meets f xs ys ⊎ Misses f xs ys
meets_or_misses f [] ys = inr (λ k h. absurd (omega arith))
meets_or_misses f (x ∷ xs) ys =
    elim (cases_Bool (list_any (eqb (f x)) ys)) [
      | inl e ↦ inl (x, (0, omega arith, refl), Contains-from_any (f x) ys e)
      | inr e ↦
          elim (meets_or_misses f xs ys) [
            | inl found ↦ inl (found.0, (suc found.1.0, omega (arith, found.1.1), found.1.2), found.2)
            | inr none ↦ inr (first_too e none)
          ]
    ]
  where
    first_too : list_any (eqb (f x)) ys ≡ false → Misses f xs ys → Misses f (x ∷ xs) ys
    first_too e none zero h = e
    first_too e none (suc k) h = none k (omega arith)

-- the numbers that xs go to, and ys, are apart
apart : (a : ℕ) (f : ℕ → ℕ) (xs ys : List ℕ) → ((k : ℕ) → k < length xs → a ≢ f (get_or xs k 0)) → list_any (eqb a) ys ≡ false → AllByRecursion (λ y. eqb a y ≡ false) (map f xs ++ ys)
apart a f [] [] none missed = tt
apart a f [] (y ∷ ys) none missed =
    elim (cases_Bool (eqb a y)) [
      | inl e ↦ absurd (clash e missed)
      | inr e ↦ (e, apart a f [] ys none (rest e missed))
    ]
  where
    clash : eqb a y ≡ true → (eqb a y || list_any (eqb a) ys) ≡ false → ⊥
    clash e h = let now : (true || list_any (eqb a) ys) ≡ false = ap (λ b. b || list_any (eqb a) ys) (sym e) ∙ h in cc

    rest : eqb a y ≡ false → (eqb a y || list_any (eqb a) ys) ≡ false → list_any (eqb a) ys ≡ false
    rest e h = ap (λ b. b || list_any (eqb a) ys) (sym e) ∙ h
apart a f (x ∷ xs) ys none missed =
    (ne_eqb a (f x) (none 0 (omega arith)), apart a f xs ys (λ k h. none (suc k) (omega arith)) missed)

abbrev pub IsOneToOne : ℕ → (ℕ → ℕ) → Type 0
IsOneToOne n f = (x y : ℕ) → x < n → y < n → f x ≡ f y → x ≡ y

distinct : (n : ℕ) (f : ℕ → ℕ) (xs ys : List ℕ) → IsOneToOne n f → All (λ x. x < n) xs → AllPairs (λ one other. one ≢ other) xs → IsDistinct eqb ys → Misses f xs ys → IsDistinct eqb (map f xs ++ ys)
distinct n f [] ys one below differ distinct_ys missed = distinct_ys
distinct n f (x ∷ xs) ys one below differ distinct_ys missed =
    IsDistinct-cons eqb (f x) (map f xs ++ ys)
    (apart (f x) f xs ys (λ k h same. differ 0 (suc k) 0 (omega arith) (omega arith) (one x (get_or xs k 0) (below 0 0 (omega arith)) (below (suc k) 0 (omega arith)) same)) (missed 0 (omega arith)))
    (distinct n f xs ys one (λ k d h. below (suc k) d (omega arith)) (λ i j d l m. differ (suc i) (suc j) d (omega arith) (omega arith)) distinct_ys (λ k h. missed (suc k) (omega arith)))

in_range : (n : ℕ) (f : ℕ → ℕ) (xs ys : List ℕ) (q : ℕ) → ((x : ℕ) → x < n → f x < n) → All (λ x. x < n) xs → All (λ y. y < n) ys → list_any (eqb q) (map f xs ++ ys) ≡ true → q < n
in_range n f [] [] q to below_xs below_ys any = cc
in_range n f [] (y ∷ ys) q to below_xs below_ys any =
    elim (or_cases (eqb q y) (list_any (eqb q) ys) any) [
      | inl e ↦ omega (arith, eqb-true q y e, below_ys 0 0 (omega arith))
      | inr e ↦ in_range n f [] ys q to below_xs (λ k d h. below_ys (suc k) d (omega arith)) e
    ]
in_range n f (x ∷ xs) ys q to below_xs below_ys any =
    elim (or_cases (eqb q (f x)) (list_any (eqb q) (map f xs ++ ys)) any) [
      | inl e ↦ omega (arith, eqb-true q (f x) e, to x (below_xs 0 0 (omega arith)))
      | inr e ↦ in_range n f xs ys q to (λ k d h. below_xs (suc k) d (omega arith)) below_ys e
    ]

-- some number of xs goes to one of ys
pub pigeonhole : (n : ℕ) (f : ℕ → ℕ) (xs ys : List ℕ) → IsOneToOne n f → ((x : ℕ) → x < n → f x < n) → AllPairs (λ one other. one < other) xs → AllPairs (λ one other. one < other) ys → All (λ x. x < n) xs → All (λ y. y < n) ys → n < length xs + length ys → Meets f xs ys
pigeonhole n f xs ys one to rise_xs rise_ys below_xs below_ys many =
    elim (meets_or_misses f xs ys) [ inl found ↦ found | inr none ↦ absurd (omega (arith, many, few none, length-append (map f xs) ys, length-map xs f)) ]
  where
    few : Misses f xs ys → length (map f xs ++ ys) ≤ n
    few none =
        length-le_from_distinct_below (map f xs ++ ys) n
        (distinct n f xs ys one below_xs (λ i j d l m e. omega (arith, rise_xs i j d l m, e)) (IsDistinct-from_AllPairs Decides-eqb ys (λ i j d l m e. omega (arith, rise_ys i j d l m, e))) none)
        (λ q any. in_range n f xs ys q to below_xs below_ys any)
