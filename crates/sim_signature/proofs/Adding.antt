-- Lists that elements are added to, so that they have all shapes that are wanted.
use Rattle.std.proofs.Common.{ℕ, ◌+◌, ◌<◌, ◌≡◌, ◌⊎◌, List, inl, inr, arith}
use Rattle.std.proofs.lemmas.Bool.{cases_lt}
use Rattle.claim_core.specs.declared.claims.Shape.{Shape}
use Rattle.sim_signature.specs.Sightings.{Adds}

-- two steps in turn add what either is to add
pub Adds-then : {X : Type 0} {Good : X → Type 0} {Has : List X → Shape → Type 0} {Wanted Also Both : Shape → Type 0} {old mid new : List X}
    → Adds Good Has Wanted old mid → Adds Good Has Also mid new
    → ((shape : Shape) → Both shape → Wanted shape ⊎ Also shape)
    → Adds Good Has Both old new
Adds-then first then split = record {
  good = λ all. then.good (first.good all);
  kept = λ shape found. then.kept shape (first.kept shape found);
  found = λ shape both. elim (split shape both) [ inl one ↦ then.kept shape (first.found shape one) | inr other ↦ then.found shape other ];
}

-- a step adds what it is to add, and so less than that
pub Adds-fewer : {X : Type 0} {Good : X → Type 0} {Has : List X → Shape → Type 0} {Wanted Fewer : Shape → Type 0} {old new : List X}
    → Adds Good Has Wanted old new
    → ((shape : Shape) → Fewer shape → Wanted shape)
    → Adds Good Has Fewer old new
Adds-fewer adds within = record { good = adds.good; kept = adds.kept; found = λ shape fewer. adds.found shape (within shape fewer) }

-- those whose number is below k, and a step for k, or none where there are none of that number
pub Adds-next : {X : Type 0} {Good : X → Type 0} {Has : List X → Shape → Type 0} {Wanted Last : Shape → Type 0} {old mid new : List X} {k : ℕ} (number : Shape → ℕ)
    → Adds Good Has (λ shape. Wanted shape × (number shape < k)) old mid → Adds Good Has Last mid new
    → ((shape : Shape) → Wanted shape → number shape ≡ k → Last shape)
    → Adds Good Has (λ shape. Wanted shape × (number shape < k + 1)) old new
Adds-next {k = k} number first then last =
    Adds-then first then (λ shape wanted. elim (cases_lt (number shape) k) [
      | inl less ↦ inl (wanted.0, less)
      | inr past ↦ inr (last shape wanted.0 (omega (arith, past, wanted.1)))
    ])

pub Adds-skip : {X : Type 0} {Good : X → Type 0} {Has : List X → Shape → Type 0} {Wanted : Shape → Type 0} {old new : List X} {k : ℕ} (number : Shape → ℕ)
    → Adds Good Has (λ shape. Wanted shape × (number shape < k)) old new
    → ((shape : Shape) → Wanted shape → number shape ≡ k → ⊥)
    → Adds Good Has (λ shape. Wanted shape × (number shape < k + 1)) old new
Adds-skip number adds none =
    Adds-next {Last = λ shape. ⊥} number adds (record { good = λ all. all; kept = λ shape found. found; found = λ shape no. absurd no }) none
