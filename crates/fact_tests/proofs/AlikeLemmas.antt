-- Inputs that may be exchanged: a function that is unate in one is unate in the other, in the same way, or, where each is
-- inverted, in the opposite one.
use Rattle.std.proofs.Common.{◌≡◌, ◌≢◌, ℕ, ◌<◌, Bool, true, false, not, List, length, refl, sym, subst, ap, ◌∙◌, arith}
use Rattle.std.proofs.lemmas.Bool.{false≢true}
use Rattle.std.proofs.lemmas.List.{length-set, set_comm}
use Rattle.std.specs.Bool.{Decides}
use Rattle.circuits.specs.Literals.{bit, differ}
use Rattle.claim_core.specs.Claims.{NoFall, with_input}
use Rattle.claim_core.specs.declared.info.Unate.{Unate}
use Rattle.claim_core.specs.declared.info.Unate.TheVariants.{Positive, Negative, Binate}
use Rattle.claim_core.specs.Facts.{cofactor}
use Rattle.fact_tests.specs.Outputs.{IsAlike, may_be_alike}
use Rattle.claim_core.specs.Rows.{IsEntry, IsUnate}
use Rattle.claim_core.proofs.ClaimLaws.{set-here}
use Rattle.fact_tests.proofs.OneRow.{one_unate}

-- the function never falls where the input goes from this bit to the other one
abbrev IsMonotone : ℕ → (List Bool → Bool) → ℕ → Bool → Type 0
IsMonotone n f i from = (x : List Bool) → length x ≡ n → NoFall (f (with_input i from x)) (f (with_input i (not from) x))

-- a function of two bits that may be exchanged, and that never falls where the first one goes that way
carried : (h : Bool → Bool → Bool) (inverted from : Bool)
    → h false (not inverted) ≡ h true inverted
    → ((b : Bool) → NoFall (h from b) (h (not from) b))
    → (a : Bool) → NoFall (h a (differ from inverted)) (h a (not (differ from inverted)))
carried h false false same never false = subst (NoFall (h false false)) (sym same) (never false)
carried h false false same never true = subst (λ one. NoFall one (h true true)) same (never true)
carried h false true same never false = subst (λ one. NoFall one (h false false)) (sym same) (never false)
carried h false true same never true = subst (NoFall (h true true)) same (never true)
carried h true false same never false = subst (NoFall (h false true)) (sym same) (never true)
carried h true false same never true = subst (λ one. NoFall one (h true false)) same (never false)
carried h true true same never false = subst (λ one. NoFall one (h false true)) (sym same) (never true)
carried h true true same never true = subst (NoFall (h true false)) same (never false)

pub alike_at : (n : ℕ) (f : List Bool → Bool) (i j : ℕ) (inverted : Bool) (x : List Bool) → IsAlike n f i j inverted → length x ≡ n → cofactor f i false j (not inverted) x ≡ cofactor f i true j inverted x
alike_at n f i j false x alike len = alike x len
alike_at n f i j true x alike len = alike x len

-- which inputs are exchanged doesn't depend on their order
pub alike_back : (n : ℕ) (f : List Bool → Bool) (i j : ℕ) (inverted : Bool) → i ≢ j → IsAlike n f i j inverted → IsAlike n f j i inverted
alike_back n f i j false apart alike =
    λ x len. ap f (sym (set_comm x i j true false apart)) ∙ (sym (alike x len) ∙ ap f (set_comm x i j false true apart))
alike_back n f i j true apart alike =
    λ x len. ap f (sym (set_comm x i j false false apart)) ∙ (alike x len ∙ ap f (set_comm x i j true true apart))

monotone_over : (n : ℕ) (f : List Bool → Bool) (i j : ℕ) (inverted from : Bool) → i ≢ j
    → IsAlike n f i j inverted
    → IsMonotone n f i from
    → IsMonotone n f j (differ from inverted)
monotone_over n f i j inverted from apart alike never =
    λ x len.
    let h : Bool → Bool → Bool = λ a b. cofactor f i a j b x in
    let after = differ from inverted in
    let steps : (b : Bool) → NoFall (h from b) (h (not from) b) =
    λ b. subst (λ one. NoFall one (h (not from) b)) (ap f (sym (set_comm x i j from b apart)))
    (subst (NoFall (f (with_input i from (with_input j b x)))) (ap f (sym (set_comm x i j (not from) b apart)))
    (never (with_input j b x) (length-set x j b ∙ len))) in
    subst (λ y. NoFall (f (with_input j after y)) (f (with_input j (not after) y))) (set-here x i (bit x i) refl)
    (carried h inverted from (alike_at n f i j inverted x alike len) steps (bit x i))

-- how a function is unate in an input that may be exchanged with one in which it is unate so
abbrev partner : Unate → Bool → Unate
partner Positive false = Positive
partner Positive true = Negative
partner Negative false = Negative
partner Negative true = Positive
partner Binate false = Binate
partner Binate true = Binate

unate_over : (n : ℕ) (f : List Bool → Bool) (i j : ℕ) (one : Unate) (inverted : Bool) → i ≢ j → j ≢ i
    → IsAlike n f i j inverted
    → IsUnate n f i one
    → IsUnate n f j (partner one inverted)
unate_over n f i j Positive false apart back alike is = monotone_over n f i j false false apart alike is
unate_over n f i j Positive true apart back alike is = monotone_over n f i j true false apart alike is
unate_over n f i j Negative false apart back alike is = monotone_over n f i j false true apart alike is
unate_over n f i j Negative true apart back alike is = monotone_over n f i j true true apart alike is
unate_over n f i j Binate false apart back alike is = (
  λ up. is.0 (monotone_over n f j i false false back (alike_back n f i j false apart alike) up),
  λ down. is.1 (monotone_over n f j i false true back (alike_back n f i j false apart alike) down),
)
unate_over n f i j Binate true apart back alike is = (
  λ up. is.1 (monotone_over n f j i true false back (alike_back n f i j true apart alike) up),
  λ down. is.0 (monotone_over n f j i true true back (alike_back n f i j true apart alike) down),
)

partners_may : (one : Unate) (inverted : Bool) → may_be_alike one (partner one inverted) inverted ≡ true
partners_may Positive false = refl
partners_may Positive true = refl
partners_may Negative false = refl
partners_may Negative true = refl
partners_may Binate false = refl
partners_may Binate true = refl

-- two inputs of the support that unateness tells apart
pub never_alike : (n : ℕ) (f : List Bool → Bool) (first second : ℕ × Unate) (inverted : Bool)
    → first.0 < second.0
    → IsEntry n f first
    → IsEntry n f second
    → may_be_alike first.1 second.1 inverted ≡ false
    → Decides false (IsAlike n f first.0 second.0 inverted)
never_alike n f first second inverted order one other never =
    (λ is. absurd (false≢true is), λ alike. absurd (false≢true (sym never ∙ (ap (λ kind. may_be_alike first.1 kind inverted) (same alike) ∙ partners_may first.1 inverted))))
  where
    same : IsAlike n f first.0 second.0 inverted → second.1 ≡ partner first.1 inverted
    same alike = one_unate n f second.0 second.1 (partner first.1 inverted) other.inside other.unate
        (unate_over n f first.0 second.0 first.1 inverted (omega (arith, order)) (omega (arith, order)) alike one.unate)
