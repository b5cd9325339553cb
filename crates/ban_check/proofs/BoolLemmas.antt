-- What tests say.
use Rattle.std.proofs.Common.{◌≡◌, ℕ, ◌+◌, ◌<◌, ◌&&◌, Bool, true, false, List, ◌∷◌, length, get_or, slice_index_or, drop, ap, subst, ◌↔◌, inl, inr, refl, sym, ◌∙◌, arith, add-one, drop-cons}
use Rattle.std.specs.Bool.{IsTrue}
use Rattle.std.proofs.lemmas.Bool.{cases_lt}
use Rattle.std.proofs.lemmas.List.{get_or_default}

no_truth : IsTrue false → ⊥
no_truth e = cc

pub refused : (P : Type 0) → (P → ⊥) → IsTrue false ↔ P
refused P never = ((λ e. absurd (no_truth e)), (λ p. absurd (never p)))

pub granted : (P : Type 0) → P → IsTrue true ↔ P
granted P p = ((λ e. p), (λ q. refl))

pub untrue : (b : Bool) (P : Type 0) → b ≡ false → (IsTrue b ↔ P) → P → ⊥
untrue b P e iff p = no_truth (sym e ∙ iff.1 p)

pub both_tests : (x y : Bool) (P Q : Type 0) → (IsTrue x ↔ P) → (IsTrue y ↔ Q) → IsTrue (x && y) ↔ (P × Q)
both_tests true true P Q p q = ((λ e. (p.0 refl, q.0 refl)), (λ both. refl))
both_tests true false P Q p q = ((λ e. absurd (no_truth e)), (λ both. q.1 both.1))
both_tests false y P Q p q = ((λ e. absurd (no_truth e)), (λ both. p.1 both.0))

pub same_test : (b : Bool) (P Q : Type 0) → (P → Q) → (Q → P) → (IsTrue b ↔ P) → IsTrue b ↔ Q
same_test b P Q to from p = ((λ e. to (p.0 e)), (λ q. p.1 (from q)))

-- the front of what is left of a list
pub front : {X : Type 0} (xs : List X) (k : ℕ) (d : X) → k < length xs → drop k xs ≡ get_or xs k d ∷ drop (k + 1) xs
front {X} xs k d within = rw (add-one, drop-cons xs k d) refl

-- one element more has a property
pub all_more : {X : Type 0} (P : X → Type 0) (xs : List X) (k : ℕ) (e : X) → k < length xs → ((j : ℕ) (d : X) → j < k → P (slice_index_or xs j d)) → P (get_or xs k e) → (j : ℕ) (d : X) → j < k + 1 → P (slice_index_or xs j d)
all_more {X} P xs k e within so_far here j d below =
    elim (cases_lt j k) [
      | inl before ↦ so_far j d before
      | inr not_before ↦
          let last : k ≡ j = omega (arith, below, not_before) in
          subst P (get_or_default xs k e d within ∙ ap (λ n. get_or xs n d) last) here
    ]
