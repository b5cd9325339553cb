-- Lemmas of lists over plain variables.
use Rattle.std.proofs.Common.{◌≡◌, ◌⊎◌, ℕ, ◌+◌, ◌-◌, ◌<◌, ◌≤◌, List, [], ◌∷◌, ◌++◌, length, map, take, drop, get_or, All, AllPairs, Any, refl, sym, ap, subst, ◌∙◌, inl, inr, arith}
use Rattle.std.specs.Prelude.{Contains}
use Rattle.std.specs.List.{insert}
use Rattle.std.proofs.lemmas.List.Elements.{Contains-append_left, Contains-append_right, Contains-append_cases, All-contains}
use Rattle.std.proofs.lemmas.Bool.{cases_order}
use Rattle.std.proofs.lemmas.List.{get_or_default, drop_more, append_assoc, take-append-drop}
use Rattle.std.proofs.lemmas.List.Edits.{length-insert, get_or-insert_below, get_or-insert_at, get_or-insert_above}
use Rattle.circuits.proofs.Lists.{contains_cons, cons_cases}

pub none_of_any : {X : Type 0} (P : X → Type 0) (xs : List X) → All (λ x. P x → ⊥) xs → Any P xs → ⊥
none_of_any P xs none any = none any.0 any.1 any.2 (subst P (sym any.3) any.4)

pub any_of_contained : {X : Type 0} (P : X → Type 0) (xs : List X) (x : X) → Contains xs x → P x → Any P xs
any_of_contained P xs x held p = (held.0, x, held.1, held.2, p)

pub contained_of_any : {X : Type 0} (P : X → Type 0) (xs : List X) (any : Any P xs) → Contains xs any.1
contained_of_any P xs any = (any.0, any.2, any.3)

-- two elements of a list that are apart in pairs are one, or apart
pub apart_or_same : {X : Type 0} (R : X → X → Type 0) (xs : List X) (x y : X) → AllPairs R xs → Contains xs x → Contains xs y → (x ≡ y) ⊎ (R x y ⊎ R y x)
apart_or_same {X = X} R xs x y pairs one other =
    elim (cases_order one.0 other.0) [
      | inl same ↦ inl (sym one.2 ∙ (get_or_default xs one.0 x y one.1 ∙ (ap (λ k. get_or xs k y) same ∙ other.2)))
      | inr (inl less) ↦ inr (inl (in_pair x y one.0 other.0 less other.1 one.2 other.2))
      | inr (inr more) ↦ inr (inr (in_pair y x other.0 one.0 more one.1 other.2 one.2))
    ]
  where
    in_pair : (a b : X) (i j : ℕ) → i < j → j < length xs → get_or xs i a ≡ a → get_or xs j b ≡ b → R a b
    in_pair a b i j less within is_a is_b =
        let first : get_or xs i b ≡ a = get_or_default xs i b a (omega arith) ∙ is_a in
        subst (λ p. R p b) first (subst (λ p. R (get_or xs i b) p) is_b (pairs i j b less within))

pub all_pairs_insert : {X : Type 0} (R : X → X → Type 0) (xs : List X) (place : ℕ) (y : X) → place ≤ length xs → AllPairs R xs → ((k : ℕ) (d : X) → k < place → R (get_or xs k d) y) → ((k : ℕ) (d : X) → place ≤ k → k < length xs → R y (get_or xs k d)) → AllPairs R (insert xs place y)
all_pairs_insert R xs place y within pairs before after i j d less below =
    elim (cases_order j place) [
      | inl at ↦
          let e : get_or (insert xs place y) j d ≡ y = ap (λ k. get_or (insert xs place y) k d) at ∙ get_or-insert_at xs place y d within in
          let first : i < place = omega (arith, less, at) in
          subst (λ b. R (get_or (insert xs place y) i d) b) (sym e) (subst (λ a. R a y) (sym (get_or-insert_below xs place y d i first within)) (before i d first))
      | inr (inl less_j) ↦
          let first : i < place = omega (arith, less, less_j) in
          subst (λ b. R (get_or (insert xs place y) i d) b) (sym (get_or-insert_below xs place y d j less_j within)) (subst (λ a. R a (get_or xs j d)) (sym (get_or-insert_below xs place y d i first within)) (pairs i j d less (omega (arith, less_j, within))))
      | inr (inr more_j) ↦ later (j - 1) (omega (arith, more_j)) (omega (arith, more_j))
    ]
  where
    size : length (insert xs place y) ≡ length xs + 1
    size = length-insert xs place y within

    last : (m : ℕ) → m < length xs → (n : ℕ) → i ≡ n + 1 → place ≤ n → n < m → R (get_or (insert xs place y) i d) (get_or xs m d)
    last m there n is past smaller =
        subst (λ a. R a (get_or xs m d)) (sym (ap (λ k. get_or (insert xs place y) k d) is ∙ get_or-insert_above xs place y d n past within)) (pairs n m d smaller there)

    later : (m : ℕ) → j ≡ m + 1 → place ≤ m → R (get_or (insert xs place y) i d) (get_or (insert xs place y) j d)
    later m is past =
        let e : get_or (insert xs place y) j d ≡ get_or xs m d = ap (λ k. get_or (insert xs place y) k d) is ∙ get_or-insert_above xs place y d m past within in
        let there : m < length xs = omega (arith, below, size, is) in
        subst (λ b. R (get_or (insert xs place y) i d) b) (sym e) (elim (cases_order i place) [
          | inl at ↦ subst (λ a. R a (get_or xs m d)) (sym (ap (λ k. get_or (insert xs place y) k d) at ∙ get_or-insert_at xs place y d within)) (after m d past there)
          | inr (inl less_i) ↦ subst (λ a. R a (get_or xs m d)) (sym (get_or-insert_below xs place y d i less_i within)) (pairs i m d (omega (arith, less_i, past)) there)
          | inr (inr more_i) ↦ last m there (i - 1) (omega (arith, more_i)) (omega (arith, more_i)) (omega (arith, less, is, more_i))
        ])

in_front : {X : Type 0} (xs : List X) (i : ℕ) (x : X) → Contains (take i xs) x → Contains xs x
in_front xs i x held = subst (λ l. Contains l x) (take-append-drop i xs) (Contains-append_left (take i xs) (drop i xs) x held)

from_rest : {X : Type 0} (xs : List X) (i : ℕ) (x : X) → Contains (drop i xs) x → Contains xs x
from_rest xs i x held = subst (λ l. Contains l x) (take-append-drop i xs) (Contains-append_right (take i xs) (drop i xs) x held)

-- what a list contains with one more element at a place
pub insert_stays : {X : Type 0} (xs : List X) (i : ℕ) (y x : X) → Contains xs x → Contains (insert xs i y) x
insert_stays xs i y x held =
    elim (Contains-append_cases (take i xs) (drop i xs) x (subst (λ l. Contains l x) (sym (take-append-drop i xs)) held)) [
      | inl first ↦ Contains-append_left (take i xs) (y ∷ drop i xs) x first
      | inr last ↦ Contains-append_right (take i xs) (y ∷ drop i xs) x (contains_cons (drop i xs) y x last)
    ]

pub insert_has : {X : Type 0} (xs : List X) (i : ℕ) (y : X) → Contains (insert xs i y) y
insert_has xs i y = Contains-append_right (take i xs) (y ∷ drop i xs) y (0, omega arith, refl)

pub insert_cases : {X : Type 0} (xs : List X) (i : ℕ) (y x : X) → Contains (insert xs i y) x → Contains xs x ⊎ (x ≡ y)
insert_cases xs i y x held =
    elim (Contains-append_cases (take i xs) (y ∷ drop i xs) x held) [
      | inl first ↦ inl (in_front xs i x first)
      | inr last ↦ elim (cons_cases (drop i xs) y x last) [ inl same ↦ inr (sym same) | inr later ↦ inl (from_rest xs i x later) ]
    ]

-- what is made so far, continued by what is left, gives the whole
pub made_more : {X Y : Type 0} (f : X → Y) (xs : List X) (made : List Y) (i : ℕ) (d : X) → i < length xs → made ++ map f (drop i xs) ≡ map f xs → (made ++ f (get_or xs i d) ∷ []) ++ map f (drop (i + 1) xs) ≡ map f xs
made_more f xs made i d below is =
    append_assoc made (f (get_or xs i d) ∷ []) (map f (drop (i + 1) xs)) ∙ (ap (λ rest. made ++ map f rest) (sym (drop_more xs i d below)) ∙ is)

pub among_more : {X : Type 0} (xs ys zs : List X) → All (Contains ys) xs → All (Contains zs) ys → All (Contains zs) xs
among_more xs ys zs first second k d below = All-contains (Contains zs) ys (get_or xs k d) second (first k d below)

pub cons_more : {X : Type 0} (y : X) (xs ys : List X) (x : X) → All (Contains ys) xs → Contains (y ∷ xs) x → Contains (y ∷ ys) x
cons_more y xs ys x more held =
    elim (cons_cases xs y x held) [
      | inl same ↦ (0, omega arith, same)
      | inr there ↦ contains_cons ys y x (All-contains (Contains ys) xs x more there)
    ]

pub any_more : {X : Type 0} (P : X → Type 0) (xs ys : List X) → All (Contains ys) xs → Any P xs → Any P ys
any_more P xs ys more any = any_of_contained P ys any.1 (All-contains (Contains ys) xs any.1 more (contained_of_any P xs any)) any.4
