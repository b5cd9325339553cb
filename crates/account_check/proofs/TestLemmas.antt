-- Tests in their order: they find one fault, and where they find none, all are passed.
use Rattle.std.proofs.Common.{◌≡◌, ◌⊎◌, Option, None, Some, inl, inr, sym, ◌∙◌}
use Rattle.std.proofs.lemmas.Option.{none-some}
use Rattle.account_check.specs.declared.reject.Reject.{Reject}
use Rattle.account_check.specs.Tests.{Passed, Unless}

pub one_passed : (a b : Option Reject) → Passed a → Passed b → a ≡ b
one_passed a b first second = first ∙ sym second

pub one_unless : (Test : Type 0) (reject : Reject) (Rest : Option Reject → Type 0) → ((a b : Option Reject) → Rest a → Rest b → a ≡ b) → (a b : Option Reject) → Unless Test reject Rest a → Unless Test reject Rest b → a ≡ b
one_unless Test reject Rest one a b (inl first) (inl second) = first.1 ∙ sym second.1
one_unless Test reject Rest one a b (inl first) (inr second) = absurd (first.0 second.0)
one_unless Test reject Rest one a b (inr first) (inl second) = absurd (second.0 first.0)
one_unless Test reject Rest one a b (inr first) (inr second) = one a b first.1 second.1

-- where no fault is found, the test is passed, and so are those after it
pub through : {A B : Type 0} {r : Reject} → (((A → ⊥) × (◌≡◌ {A = Option Reject} None (Some r))) ⊎ (A × B)) → A × B
through {A} {B} {r} (inl failed) = absurd (none-some r failed.1)
through {A} {B} {r} (inr passed) = passed
