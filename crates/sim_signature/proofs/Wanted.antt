-- The claims that are hunted, one input after the other.
use Rattle.std.proofs.Common.{ℕ, zero, suc, ◌+◌, ◌<◌, ◌≡◌, Bool, true, false, List, [], ◌∷◌, ◌++◌, length, replicate, sym, ap, ◌∙◌, subst, arith}
use Rattle.std.specs.List.{All, Contains}
use Rattle.std.proofs.lemmas.List.{get_or-replicate, length-replicate}
use Rattle.std.proofs.lemmas.List.Elements.{All-append, Contains-append_left, Contains-append_right}
use Rattle.circuits.specs.Literals.{bit}
use Rattle.claim_core.specs.declared.claims.Shape.{Shape}
use Rattle.claim_core.specs.declared.claims.Shape.TheVariants.{Up, Down, Swap}
use Rattle.claim_core.specs.Claims.{IsPlaced}
use Rattle.sim_signature.specs.Sightings.{Added, IsHunted, first_of, last_of}

-- some shapes at the end
Added-list : {n : ℕ} {Wanted : Shape → Type 0} {old new : List Shape} (shapes : List Shape) → new ≡ old ++ shapes → All (IsPlaced n) shapes → ((shape : Shape) → Wanted shape → Contains shapes shape) → Added n Wanted old new
Added-list {n = n} {old = old} shapes is placed has = record {
  good = λ all. subst (All (IsPlaced n)) (sym is) (All-append (IsPlaced n) old shapes all placed);
  kept = λ shape found. subst (λ list. Contains list shape) (sym is) (Contains-append_left old shapes shape found);
  found = λ shape wanted. subst (λ list. Contains list shape) (sym is) (Contains-append_right old shapes shape (has shape wanted));
}

both_of : (n i : ℕ) (shape : Shape) → IsPlaced n shape → first_of shape ≡ i → last_of shape < i + 1 → Contains (Up i ∷ Down i ∷ []) shape
both_of n i (Up j) placed is below = (0, omega arith, ap Up (sym is))
both_of n i (Down j) placed is below = (1, omega arith, ap Down (sym is))
both_of n i (Swap j other a b) placed is below = absurd (omega (arith, placed.0, is, below))

both_placed : (n i : ℕ) → i < n → All (IsPlaced n) (Up i ∷ Down i ∷ [])
both_placed n i h zero d less = h
both_placed n i h (suc zero) d less = h
both_placed n i h (suc (suc k)) d less = absurd (omega (arith, less))

pub input-added : (hunted : List Bool) (i : ℕ) {old new : List Shape} → i < length hunted → new ≡ old ++ Up i ∷ Down i ∷ [] → Added (length hunted) (λ shape. (IsHunted hunted shape × (first_of shape ≡ i)) × (last_of shape < i + 1)) old new
input-added hunted i h is =
    Added-list (Up i ∷ Down i ∷ []) is (both_placed (length hunted) i h) (λ shape wanted. both_of (length hunted) i shape wanted.0.0.placed wanted.0.1 wanted.1)

abbrev pub swaps_of : ℕ → ℕ → List Shape
swaps_of i j = Swap i j false false ∷ Swap i j false true ∷ Swap i j true false ∷ Swap i j true true ∷ []

same-swap : (i j first second : ℕ) (a b : Bool) → first ≡ i → second ≡ j → Swap i j a b ≡ Swap first second a b
same-swap i j first second a b e f = ap (λ n. Swap n j a b) (sym e) ∙ ap (λ n. Swap first n a b) (sym f)

four_of : (i j : ℕ) (shape : Shape) → i < j → first_of shape ≡ i → last_of shape ≡ j → Contains (swaps_of i j) shape
four_of i j (Up other) h is last = absurd (omega (arith, h, is, last))
four_of i j (Down other) h is last = absurd (omega (arith, h, is, last))
four_of i j (Swap first second false false) h is last = (0, omega arith, same-swap i j first second false false is last)
four_of i j (Swap first second false true) h is last = (1, omega arith, same-swap i j first second false true is last)
four_of i j (Swap first second true false) h is last = (2, omega arith, same-swap i j first second true false is last)
four_of i j (Swap first second true true) h is last = (3, omega arith, same-swap i j first second true true is last)

four_placed : (n i j : ℕ) → i < j → j < n → All (IsPlaced n) (swaps_of i j)
four_placed n i j h l zero d less = (h, l)
four_placed n i j h l (suc zero) d less = (h, l)
four_placed n i j h l (suc (suc zero)) d less = (h, l)
four_placed n i j h l (suc (suc (suc zero))) d less = (h, l)
four_placed n i j h l (suc (suc (suc (suc k)))) d less = absurd (omega (arith, less))

pub pair-added : (n i j : ℕ) {old new : List Shape} → i < j → j < n → new ≡ old ++ swaps_of i j → Added n (λ shape. IsPlaced n shape × (first_of shape ≡ i) × (last_of shape ≡ j)) old new
pair-added n i j h l is = Added-list (swaps_of i j) is (four_placed n i j h l) (λ shape wanted. four_of i j shape h wanted.1 wanted.2)

-- a shape's inputs are below the number of inputs
pub inputs_below : (n : ℕ) (shape : Shape) → IsPlaced n shape → (first_of shape < n) × (last_of shape < n)
inputs_below n (Up i) placed = (placed, placed)
inputs_below n (Down i) placed = (placed, placed)
inputs_below n (Swap i j a b) placed = (omega (arith, placed.0, placed.1), placed.1)

-- where all inputs are marked
pub all_marked : (n : ℕ) (hunted : List Bool) (shape : Shape) → hunted ≡ replicate n true → IsPlaced n shape → IsHunted hunted shape
all_marked n hunted shape is placed =
    let below = inputs_below n shape placed in
    let count = ap length is ∙ length-replicate n true in
    let marked : (i : ℕ) → i < n → bit hunted i ≡ true = λ i less. ap (λ marks. bit marks i) is ∙ get_or-replicate n i true false less in
    record { placed = subst (λ n. IsPlaced n shape) (sym count) placed; first = marked (first_of shape) below.0; last = marked (last_of shape) below.1 }
