-- For faults that come first: lists in which a test finds nothing, or something first.
use Rattle.std.proofs.Common.{◌≡◌, ℕ, ◌<◌, Bool, true, false, List, [], ◌∷◌, ◌++◌, length, take, get_or, ap, sym, subst, ◌∙◌, inl, inr, arith}
use Rattle.std.proofs.lemmas.Bool.{cases_lt}
use Rattle.std.proofs.lemmas.List.{take-append-le, get_or_append_left, length_push, length-append}
use Rattle.std.proofs.Math.Seq.{take-append_seam, get_or-append_seam}
use Rattle.blif_reader.specs.Firsts.{IsFirst, NoneIs}

-- what a test says of an element does not change by what stands after it
pub found-append : {X B : Type 0} (found : List X → X → B) (xs ys : List X) (k : ℕ) (d : X) → k < length xs → found (take k (xs ++ ys)) (get_or (xs ++ ys) k d) ≡ found (take k xs) (get_or xs k d)
found-append found xs ys k d h =
    ap (λ before. found before (get_or (xs ++ ys) k d)) (take-append-le k xs ys (omega arith)) ∙ ap (found (take k xs)) (get_or_append_left xs ys d k h)

pub found-seam : {X B : Type 0} (found : List X → X → B) (xs : List X) (x : X) (ys : List X) (d : X) → found (take (length xs) (xs ++ x ∷ ys)) (get_or (xs ++ x ∷ ys) (length xs) d) ≡ found xs x
found-seam found xs x ys d =
    ap (λ before. found before (get_or (xs ++ x ∷ ys) (length xs) d)) (take-append_seam xs (x ∷ ys)) ∙ ap (found xs) (get_or-append_seam xs x ys d)

pub NoneIs-push : {X : Type 0} (found : List X → X → Bool) (xs : List X) (x : X) → NoneIs found xs → found xs x ≡ false → NoneIs found (xs ++ x ∷ [])
NoneIs-push found xs x none h k d below =
    elim (cases_lt k (length xs)) [
      | inl less ↦ found-append found xs (x ∷ []) k d less ∙ none k d less
      | inr past ↦ let e : k ≡ length xs = omega (arith, length_push xs x) in subst (λ n. found (take n (xs ++ x ∷ [])) (get_or (xs ++ x ∷ []) n d) ≡ false) (sym e) (found-seam found xs x [] d ∙ h)
    ]

pub IsFirst-seam : {X : Type 0} (found : List X → X → Bool) (xs : List X) (x : X) (ys : List X) → NoneIs found xs → found xs x ≡ true → IsFirst found (xs ++ x ∷ ys) (length xs)
IsFirst-seam found xs x ys none h = record {
  there = omega (arith, length-append xs (x ∷ ys));
  here = λ d. found-seam found xs x ys d ∙ h;
  none_before = λ k d less. found-append found xs (x ∷ ys) k d less ∙ none k d less;
}

-- there is one first element, or none
pub one_first : {X : Type 0} (found : List X → X → Bool) (xs : List X) (d : X) (j k : ℕ) → IsFirst found xs j → IsFirst found xs k → j ≡ k
one_first found xs d j k one other =
    elim (cases_lt j k) [
      | inl less ↦ absurd (cc (one.here d, other.none_before j d less))
      | inr past ↦ elim (cases_lt k j) [
        | inl less ↦ absurd (cc (other.here d, one.none_before k d less))
        | inr same ↦ omega arith
      ]
    ]

pub no_first : {X : Type 0} (found : List X → X → Bool) (xs : List X) (d : X) (k : ℕ) → NoneIs found xs → IsFirst found xs k → ⊥
no_first found xs d k none first = cc (none k d first.there, first.here d)
