-- Lists in a row, one element more, and elements that are marked: what several crates need and std doesn't state.
use Rattle.std.proofs.Common.{◌≡◌, ℕ, ◌+◌, ◌⊎◌, Bool, true, false, List, [], ◌∷◌, ◌++◌, eqb, zero, suc, length, map, take, drop, All, Contains, inl, inr, refl, sym, ◌∙◌, ap, subst, arith, append-nil, length-append}
use Rattle.std.specs.List.{flat_map, list_any, range_with_len}
use Rattle.std.proofs.lemmas.Bool.{false≢true, ne_eqb}
use Rattle.std.proofs.lemmas.Grind.{flat_map-append}
use Rattle.std.proofs.lemmas.List.{get_or_append_left, get_or-append-add, take_at}
use Rattle.std.proofs.lemmas.List.Folds.{list_any_none}
use Rattle.std.proofs.lemmas.List.FromFn.{map-range_with_len_more}
use Rattle.circuits.specs.Literals.{bit}

-- what holds of two lists in a row holds of each
pub All-front : {X : Type 0} (P : X → Type 0) (xs ys : List X) → All P (xs ++ ys) → All P xs
All-front P xs ys all k d below =
    subst P (get_or_append_left xs ys d k below) (all k d (omega (arith, below, length-append xs ys)))

pub All-back : {X : Type 0} (P : X → Type 0) (xs ys : List X) → All P (xs ++ ys) → All P ys
All-back P xs ys all k d below =
    subst P (get_or-append-add xs ys k d) (all (length xs + k) d (omega (arith, below, length-append xs ys)))

-- the elements after the first, and all
pub contains_cons : {X : Type 0} (xs : List X) (y x : X) → Contains xs x → Contains (y ∷ xs) x
contains_cons xs y x held = (suc held.0, omega (arith, held.1), held.2)

pub cons_cases : {X : Type 0} (xs : List X) (y x : X) → Contains (y ∷ xs) x → (y ≡ x) ⊎ Contains xs x
cons_cases xs y x (zero, below, is) = inl is
cons_cases xs y x (suc k, below, is) = inr (k, omega (arith, below), is)

-- one number more
pub range_more : (n : ℕ) → range_with_len 0 (n + 1) ≡ range_with_len 0 n ++ n ∷ []
range_more n = sym (map_id _) ∙ map-range_with_len_more (λ k. k) 0 n n (omega arith) ∙ ap (λ ns. ns ++ n ∷ []) (map_id _)
  where
    map_id : (xs : List ℕ) → map (λ k. k) xs ≡ xs
    map_id [] = refl
    map_id (x ∷ xs) = ap (λ l. x ∷ l) (map_id xs)

-- what one element more adds
pub flat_push : {X Y : Type 0} (f : X → List Y) (xs : List X) (x : X) → flat_map f (xs ++ x ∷ []) ≡ flat_map f xs ++ f x
flat_push f xs x = flat_map-append f xs (x ∷ []) ∙ ap (λ ys. flat_map f xs ++ ys) (append-nil (f x))

-- what is lent to be written to, once it is given back
pub given_back : {X : Type 0} (size : ℕ) (old lent now : List X) → lent ≡ old → length now ≡ length lent → length old ≡ size → take size (now ++ drop (length now) old) ≡ now
given_back size old lent now value same full = take_at now (drop (length now) old) size (same ∙ (ap length value ∙ full))

-- what isn't marked isn't among what is
pub not_among : (marks : List Bool) (place : ℕ) (places : List ℕ) → bit marks place ≡ false → All (λ k. bit marks k ≡ true) places → list_any (eqb place) places ≡ false
not_among marks place places unmarked all =
    list_any_none (eqb place) places (λ k d below. ne_eqb place _ (λ e. false≢true (sym unmarked ∙ (ap (bit marks) e ∙ all k d below))))
