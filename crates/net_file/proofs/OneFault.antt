-- For the law that a file has one first fault at most: faults of several sorts.
use Rattle.std.proofs.Common.{◌≡◌, ℕ, ◌⊎◌, inl, inr}
use Rattle.net_file.specs.declared.fault.NetKind.{NetKind}

-- there is one kind at most, at one place
abbrev pub IsOne : (NetKind → ℕ → Type 0) → Type 0
IsOne R = (fault other : NetKind) (at place : ℕ) → R fault at → R other place → (fault ≡ other) × (at ≡ place)

-- two sorts that exclude one another, and are one fault each, are one together
pub either : (S R : NetKind → ℕ → Type 0) → ((fault other : NetKind) (at place : ℕ) → S fault at → R other place → ⊥) → IsOne S → IsOne R → IsOne (λ fault at. S fault at ⊎ R fault at)
either S R apart one two fault other at place (inl s) (inl t) = one fault other at place s t
either S R apart one two fault other at place (inl s) (inr r) = absurd (apart fault other at place s r)
either S R apart one two fault other at place (inr r) (inl s) = absurd (apart other fault place at s r)
either S R apart one two fault other at place (inr r) (inr q) = two fault other at place r q
