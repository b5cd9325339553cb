-- What holds of each element of a list with its place.
use Rattle.std.proofs.Common.{◌≡◌, ◌++◌, ◌∷◌, ℕ, List, [], length, inl, inr, sym, subst, arith}
use Rattle.std.proofs.lemmas.Bool.{cases_lt}
use Rattle.std.proofs.lemmas.List.{get_or_append_left, get_or_push, length_push}
use Rattle.circuits.specs.Literals.{EachAt}

-- it holds with one more at the end
pub each_push : {X : Type 0} (P : ℕ → X → Type 0) (xs : List X) (x : X) → EachAt P xs → P (length xs) x → EachAt P (xs ++ x ∷ [])
each_push P xs x each last k d below =
    elim (cases_lt k (length xs)) [
      | inl less ↦ subst (P k) (sym (get_or_append_left xs (x ∷ []) d k less)) (each k d less)
      | inr past ↦
          let e : length xs ≡ k = omega (arith, below, past, length_push xs x) in
          subst (P k) (sym (get_or_push xs x d k e)) (subst (λ n. P n x) e last)
    ]
