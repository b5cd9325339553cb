-- The two changes that a shape's claim sets against each other.
use Rattle.std.proofs.Common.{ℕ, ◌<◌, ◌≡◌, ◌≢◌, Bool, false, not, List, length, set, refl, sym, ap, ap₂, ◌∙◌, arith}
use Rattle.std.proofs.Math.Bool.{not-not}
use Rattle.std.proofs.lemmas.List.{get_or-set_same, get_or-set_other, set-set, set_comm, set-get_or}
use Rattle.circuits.specs.Literals.{bit}
use Rattle.claim_core.specs.declared.claims.Shape.{Shape}
use Rattle.claim_core.specs.declared.claims.Shape.TheVariants.{Up, Down, Swap}
use Rattle.claim_core.specs.Claims.{HasValues, IsPlaced, with_opposites}
use Rattle.sim_signature.specs.declared.change.Change.{Change}
use Rattle.sim_signature.specs.declared.change.Change.TheVariants.{Nothing, Inverted}
use Rattle.sim_signature.specs.Changes.{AreEnds, IsChange, changed, ends_of}

-- an input inverted twice
pub changed-twice : (change : Change) (x : List Bool) → IsChange (length x) change → changed change (changed change x) ≡ x
changed-twice Nothing x there = refl
changed-twice (Inverted i) x there =
    let y = changed (Inverted i) x in
    set-set x i (not (bit x i)) (not (bit y i)) ∙ (ap (λ b. set x i (not b)) (get_or-set_same x i (not (bit x i)) false there) ∙ (ap (set x i) (not-not (bit x i)) ∙ set-get_or x i false))

-- two inputs inverted in either order
changed-comm : (x : List Bool) (i j : ℕ) → i < j → changed (Inverted j) (changed (Inverted i) x) ≡ changed (Inverted i) (changed (Inverted j) x)
changed-comm x i j less =
    let apart : i ≢ j = λ e. absurd (omega (arith, less, e)) in
    let back : j ≢ i = λ e. absurd (omega (arith, less, e)) in
    let a = not (bit x i) in
    let b = not (bit x j) in
    ap (λ c. set (set x i a) j (not c)) (get_or-set_other x i j a false back) ∙ (set_comm x i j a b apart ∙ ap (λ c. set (set x j b) i (not c)) (sym (get_or-set_other x j i b false apart)))

-- the vector with the shape's inputs inverted
abbrev flipped : Shape → List Bool → List Bool
flipped (Up i) x = changed (Inverted i) x
flipped (Down i) x = changed (Inverted i) x
flipped (Swap i j a b) x = changed (Inverted j) (changed (Inverted i) x)

-- of the shape's values these are the opposite ones
opposites : (n : ℕ) (shape : Shape) (x : List Bool) → IsPlaced n shape → HasValues shape x → with_opposites shape x ≡ flipped shape x
opposites n (Up i) x placed is = ap (λ b. set x i (not b)) (sym is)
opposites n (Down i) x placed is = ap (λ b. set x i (not b)) (sym is)
opposites n (Swap i j a b) x placed is =
    let apart : j ≢ i = λ e. absurd (omega (arith, placed.0, e)) in
    ap₂ (λ c d. set (set x i (not c)) j (not d)) (sym is.0) (sym (get_or-set_other x i j (not (bit x i)) false apart ∙ is.1))

-- two changes are ends where the second is the first one with the shape's inputs inverted
AreEnds-by : (n : ℕ) (shape : Shape) (from to : Change) → IsPlaced n shape → IsChange n from → IsChange n to → ((x : List Bool) → length x ≡ n → flipped shape (changed from x) ≡ changed to x) → AreEnds n shape from to
AreEnds-by n shape from to placed from_there to_there goes = record {
  from_there = from_there;
  to_there = to_there;
  opposite = λ x len valued. opposites n shape (changed from x) placed valued ∙ goes x len;
}

-- the two changes of each kind of shape, in either direction
pub ends : (n : ℕ) (shape : Shape) → IsPlaced n shape → AreEnds n shape (ends_of shape).0 (ends_of shape).1
ends n (Up i) placed = AreEnds-by n (Up i) (Inverted i) Nothing placed placed tt (λ x len. changed-twice (Inverted i) x (omega (arith, placed, len)))
ends n (Down i) placed = AreEnds-by n (Down i) (Inverted i) Nothing placed placed tt (λ x len. changed-twice (Inverted i) x (omega (arith, placed, len)))
ends n (Swap i j a b) placed =
    AreEnds-by n (Swap i j a b) (Inverted i) (Inverted j) placed (omega (arith, placed.0, placed.1)) placed.1 (λ x len. ap (changed (Inverted j)) (changed-twice (Inverted i) x (omega (arith, placed.0, placed.1, len))))

pub ends_back : (n : ℕ) (shape : Shape) → IsPlaced n shape → AreEnds n shape (ends_of shape).1 (ends_of shape).0
ends_back n (Up i) placed = AreEnds-by n (Up i) Nothing (Inverted i) placed tt placed (λ x len. refl)
ends_back n (Down i) placed = AreEnds-by n (Down i) Nothing (Inverted i) placed tt placed (λ x len. refl)
ends_back n (Swap i j a b) placed =
    AreEnds-by n (Swap i j a b) (Inverted j) (Inverted i) placed placed.1 (omega (arith, placed.0, placed.1)) (λ x len. changed-comm (changed (Inverted j) x) i j placed.0 ∙ ap (changed (Inverted i)) (changed-twice (Inverted j) x (omega (arith, placed.1, len))))
