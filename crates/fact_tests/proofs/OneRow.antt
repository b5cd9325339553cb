-- A function has one row at most.
use Rattle.std.proofs.Common.{◌≡◌, ◌⊎◌, ℕ, zero, suc, ◌<◌, Bool, true, false, not, List, [], ◌∷◌, length, set, AllPairs, Contains, get_or, refl, sym, subst, ap, ◌∙◌, inl, inr, arith}
use Rattle.std.proofs.lemmas.List.{get_or_default}
use Rattle.circuits.specs.Literals.{bit}
use Rattle.claim_core.specs.Claims.{with_input}
use Rattle.claim_core.specs.declared.info.OutputInfo.{OutputInfo}
use Rattle.claim_core.specs.declared.info.Unate.{Unate}
use Rattle.claim_core.specs.declared.info.Unate.TheVariants.{Positive, Negative, Binate}
use Rattle.claim_core.specs.declared.info.Sym.{Sym}
use Rattle.claim_core.specs.declared.info.Sym.TheVariants.{Symmetric, Skew, Both}
use Rattle.claim_core.specs.Facts.{InSupport, IsPositive, IsNegative, IsSymmetric, IsSkew}
use Rattle.claim_core.specs.Rows.{IsUnate, IsSym, IsEntry, ListsSupport, IsPair, IsBefore, ListsPairs, IsRow}
use Rattle.claim_core.proofs.ClaimLaws.{no_fall_both, set-here}

-- lists that ascend and have the same elements
module _ {X : Type 0} (R : X → X → Type 0) (one_way : (x y : X) → R x y → R y x → ⊥) where
  in_tail : (x y : X) (xs : List X) → Contains (y ∷ xs) x → (y ≡ x) ⊎ Contains xs x
  in_tail x y xs (zero, h, is) = inl is
  in_tail x y xs (suc k, h, is) = inr (k, omega (arith, h), is)

  later : (x y : X) (xs : List X) → Contains xs x → Contains (y ∷ xs) x
  later x y xs (k, h, is) = (suc k, omega (arith, h), is)

  first : (x : X) (xs : List X) → Contains (x ∷ xs) x
  first x xs = (zero, omega arith, refl)

  ahead : (x y : X) (xs : List X) → AllPairs R (x ∷ xs) → Contains xs y → R x y
  ahead x y xs ascending (k, h, is) = subst (R x) is (ascending zero (suc k) y (omega arith) (omega (arith, h)))

  rest : (x : X) (xs : List X) → AllPairs R (x ∷ xs) → AllPairs R xs
  rest x xs ascending i j d less h = ascending (suc i) (suc j) d (omega (arith, less)) (omega (arith, h))

  heads : (x y : X) (xs ys : List X) → AllPairs R (x ∷ xs) → AllPairs R (y ∷ ys) → (y ≡ x) ⊎ Contains ys x → (x ≡ y) ⊎ Contains xs y → x ≡ y
  heads x y xs ys one other (inl same) back = sym same
  heads x y xs ys one other (inr there) (inl same) = same
  heads x y xs ys one other (inr there) (inr back) = absurd (one_way x y (ahead x y xs one back) (ahead y x ys other there))

  -- what is after the head of one list is after the head of the other
  tails : (x y : X) (xs ys : List X) → x ≡ y → AllPairs R (x ∷ xs) → ((z : X) → Contains (x ∷ xs) z → Contains (y ∷ ys) z) → (z : X) → Contains xs z → Contains ys z
  tails x y xs ys same ascending there z inside =
      elim (in_tail z y ys (there z (later z x xs inside))) [
        | inl is ↦
            let before : R x z = ahead x z xs ascending inside in
            absurd (one_way x z before (subst (R z) (sym (same ∙ is)) (subst (λ x. R x z) (same ∙ is) before)))
        | inr found ↦ found
      ]

  pub same_lists : (xs ys : List X) → AllPairs R xs → AllPairs R ys → ((z : X) → Contains xs z → Contains ys z) → ((z : X) → Contains ys z → Contains xs z) → xs ≡ ys
  same_lists [] [] one other there back = refl
  same_lists [] (y ∷ ys) one other there back = let found = back y (first y ys) in absurd (omega (arith, found.1))
  same_lists (x ∷ xs) [] one other there back = let found = there x (first x xs) in absurd (omega (arith, found.1))
  same_lists (x ∷ xs) (y ∷ ys) one other there back =
      let head = heads x y xs ys one other (in_tail x y ys (there x (first x xs))) (in_tail y x xs (back y (first y ys))) in
      let tail = same_lists xs ys (rest x xs one) (rest y ys other) (tails x y xs ys head one there) (tails y x ys xs (sym head) other back) in
      ap (λ x. x ∷ xs) head ∙ ap (λ xs. y ∷ xs) tail

-- a function that neither falls nor rises doesn't depend on the input
unchanged : (n : ℕ) (f : List Bool → Bool) (i : ℕ) (x : List Bool) (b : Bool) → IsPositive n f i → IsNegative n f i → length x ≡ n → bit x i ≡ b → f x ≡ f (with_input i (not (bit x i)) x)
unchanged n f i x true up down len is =
    ap f (sym (set-here x i true is)) ∙ (no_fall_both (f (set x i true)) (f (set x i false)) (down x len) (up x len) ∙ ap (λ b. f (set x i (not b))) (sym is))
unchanged n f i x false up down len is =
    ap f (sym (set-here x i false is)) ∙ (no_fall_both (f (set x i false)) (f (set x i true)) (up x len) (down x len) ∙ ap (λ b. f (set x i (not b))) (sym is))

pub one_unate : (n : ℕ) (f : List Bool → Bool) (i : ℕ) (a b : Unate) → InSupport n f i → IsUnate n f i a → IsUnate n f i b → a ≡ b
one_unate n f i Positive Positive inside one other = refl
one_unate n f i Positive Negative inside one other = absurd (inside.2 (unchanged n f i inside.0 (bit inside.0 i) one other inside.1 refl))
one_unate n f i Positive Binate inside one other = absurd (other.0 one)
one_unate n f i Negative Positive inside one other = absurd (inside.2 (unchanged n f i inside.0 (bit inside.0 i) other one inside.1 refl))
one_unate n f i Negative Negative inside one other = refl
one_unate n f i Negative Binate inside one other = absurd (other.1 one)
one_unate n f i Binate Positive inside one other = absurd (one.0 other)
one_unate n f i Binate Negative inside one other = absurd (one.1 other)
one_unate n f i Binate Binate inside one other = refl

one_sym : (n : ℕ) (f : List Bool → Bool) (i j : ℕ) (a b : Sym) → IsSym n f i j a → IsSym n f i j b → a ≡ b
one_sym n f i j Symmetric Symmetric one other = refl
one_sym n f i j Symmetric Skew one other = absurd (other.0 one.0)
one_sym n f i j Symmetric Both one other = absurd (one.1 other.1)
one_sym n f i j Skew Symmetric one other = absurd (one.0 other.0)
one_sym n f i j Skew Skew one other = refl
one_sym n f i j Skew Both one other = absurd (one.0 other.0)
one_sym n f i j Both Symmetric one other = absurd (other.1 one.1)
one_sym n f i j Both Skew one other = absurd (other.0 one.0)
one_sym n f i j Both Both one other = refl

-- an entry of one list is in the other
entry_in : (n : ℕ) (f : List Bool → Bool) (xs ys : List (ℕ × Unate)) → ListsSupport n f 0 n xs → ListsSupport n f 0 n ys → (z : ℕ × Unate) → Contains xs z → Contains ys z
entry_in n f xs ys one other z (k, h, is) =
    let entry : IsEntry n f z = subst (IsEntry n f) is (one.right k z h) in
    let found = other.whole z.0 (omega arith) entry.there entry.inside in
    at entry found.0 found.1 found.2 found.3 found.4
  where
    at : IsEntry n f z → (t : ℕ) (y : ℕ × Unate) → t < length ys → get_or ys t y ≡ y → y.0 ≡ z.0 → Contains ys z
    at entry t y h is same =
        let there : IsEntry n f y = subst (IsEntry n f) is (other.right t y h) in
        let way : y.1 ≡ z.1 = one_unate n f z.0 y.1 z.1 entry.inside (subst (λ i. IsUnate n f i y.1) same there.unate) entry.unate in
        let equal : y ≡ z = λ i. (same i, way i) in
        (t, h, get_or_default ys t z y h ∙ (is ∙ equal))

one_support : (n : ℕ) (f : List Bool → Bool) (xs ys : List (ℕ × Unate)) → ListsSupport n f 0 n xs → ListsSupport n f 0 n ys → xs ≡ ys
one_support n f xs ys one other =
    same_lists (λ (one other : ℕ × Unate). one.0 < other.0) (λ x y before after. omega (arith, before, after)) xs ys one.ascending other.ascending (entry_in n f xs ys one other) (entry_in n f ys xs other one)

pair_in : (n : ℕ) (f : List Bool → Bool) (xs ys : List (ℕ × ℕ × Sym)) → ListsPairs n f n 0 xs → ListsPairs n f n 0 ys → (z : ℕ × ℕ × Sym) → Contains xs z → Contains ys z
pair_in n f xs ys one other z (k, h, is) =
    let pair : IsPair n f z = subst (IsPair n f) is (one.right k z h) in
    let found = other.whole z.0 z.1 (inl (omega (arith, pair.order, pair.there))) pair.order pair.there pair.first pair.second (either z.2 pair.sym) in
    at pair found.0 found.1 found.2 found.3 found.4
  where
    either : (way : Sym) → IsSym n f z.0 z.1 way → IsSymmetric n f z.0 z.1 ⊎ IsSkew n f z.0 z.1
    either Symmetric is = inl is.0
    either Skew is = inr is.1
    either Both is = inl is.0

    at : IsPair n f z → (t : ℕ) (y : ℕ × ℕ × Sym) → t < length ys → get_or ys t y ≡ y → (y.0 ≡ z.0) × (y.1 ≡ z.1) → Contains ys z
    at pair t y h is same =
        let there : IsPair n f y = subst (IsPair n f) is (other.right t y h) in
        let moved : IsSym n f z.0 z.1 y.2 = subst (λ i. IsSym n f i z.1 y.2) same.0 (subst (λ j. IsSym n f y.0 j y.2) same.1 there.sym) in
        let way : y.2 ≡ z.2 = one_sym n f z.0 z.1 y.2 z.2 moved pair.sym in
        let equal : y ≡ z = λ i. (same.0 i, same.1 i, way i) in
        (t, h, get_or_default ys t z y h ∙ (is ∙ equal))

not_before : (a b i j : ℕ) → IsBefore a b i j → IsBefore i j a b → ⊥
not_before a b i j before after =
    elim before [
      | inl less ↦ elim after [ inl more ↦ omega (arith, less, more) | inr same ↦ omega (arith, less, same.0) ]
      | inr same ↦ elim after [ inl more ↦ omega (arith, same.0, more) | inr other ↦ omega (arith, same.1, other.1) ]
    ]

one_pairs : (n : ℕ) (f : List Bool → Bool) (xs ys : List (ℕ × ℕ × Sym)) → ListsPairs n f n 0 xs → ListsPairs n f n 0 ys → xs ≡ ys
one_pairs n f xs ys one other =
    same_lists (λ (one other : ℕ × ℕ × Sym). IsBefore one.0 one.1 other.0 other.1) (λ x y. not_before x.0 x.1 y.0 y.1) xs ys one.ascending other.ascending (pair_in n f xs ys one other) (pair_in n f ys xs other one)

pub one_row : (n : ℕ) (f : List Bool → Bool) (row other : OutputInfo) → IsRow n f row → IsRow n f other → row ≡ other
one_row n f row other one also =
    let support = one_support n f row.support other.support one.support also.support in
    let pairs = one_pairs n f row.pairs other.pairs one.pairs also.pairs in
    λ i. record { support = support i; pairs = pairs i }
