-- Claims and the vectors that break them.
use Rattle.std.proofs.Common.{ℕ, zero, suc, ◌^◌, ◌<◌, ◌≤◌, ◌≡◌, ◌≢◌, ◌⊎◌, ◌↔◌, Bool, true, false, not, List, length, set, refl, sym, ap, subst, ◌∙◌, inl, inr, arith}
use Rattle.std.proofs.lemmas.Bool.{cases_lt, false≢true, cases_Bool}
use Rattle.std.proofs.lemmas.List.{length-set, get_or-set_same, get_or-set_other, set-set, set_comm, set-get_or}
use Rattle.circuits.specs.Literals.{bit, vector_of}
use Rattle.circuits.specs.Netlists.{Net}
use Rattle.circuits.proofs.Codes.{code_of, code_of-below, vector_of-code_of, length-vector_of}
use Rattle.claim_core.specs.declared.claims.Shape.{Shape}
use Rattle.claim_core.specs.declared.claims.Shape.TheVariants.{Up, Down, Swap}
use Rattle.claim_core.specs.Claims.{output_bit, with_input, with_values, with_opposites, HasValues, IsPlaced, NoFall, ShapeHolds, BreaksShape, ShapeFails}
use Rattle.claim_core.specs.Facts.{InSupport, OutsideSupport, IsBinate, IsSymmetric, IsSkew, cofactor}

-- a bit that is there already
pub set-here : (x : List Bool) (i : ℕ) (b : Bool) → bit x i ≡ b → with_input i b x ≡ x
set-here x i b is = ap (λ b. set x i b) (sym is) ∙ set-get_or x i false

-- a vector with the shape's values is the one with these values set
with_values-same : (shape : Shape) (x : List Bool) → HasValues shape x → with_values shape x ≡ x
with_values-same (Up i) x has = set-here x i false has
with_values-same (Down i) x has = set-here x i true has
with_values-same (Swap i j a b) x has = ap (with_input j b) (set-here x i a has.0) ∙ set-here x j b has.1

pub length-with_values : (shape : Shape) (x : List Bool) → length (with_values shape x) ≡ length x
length-with_values (Up i) x = length-set x i false
length-with_values (Down i) x = length-set x i true
length-with_values (Swap i j a b) x = length-set (set x i a) j b ∙ length-set x i a

pub length-with_opposites : (shape : Shape) (x : List Bool) → length (with_opposites shape x) ≡ length x
length-with_opposites (Up i) x = length-set x i true
length-with_opposites (Down i) x = length-set x i false
length-with_opposites (Swap i j a b) x = length-set (set x i (not a)) j (not b) ∙ length-set x i (not a)

HasValues-with_values : (shape : Shape) (x : List Bool) → IsPlaced (length x) shape → HasValues shape (with_values shape x)
HasValues-with_values (Up i) x placed = get_or-set_same x i false false placed
HasValues-with_values (Down i) x placed = get_or-set_same x i true false placed
HasValues-with_values (Swap i j a b) x placed =
    let apart : i ≢ j = omega (arith, placed.0) in
    let first : i < length x = omega (arith, placed.0, placed.1) in
    (get_or-set_other (set x i a) j i b false apart ∙ get_or-set_same x i a false first, get_or-set_same (set x i a) j b false (omega (arith, placed.1, length-set x i a)))

-- the opposite values replace the shape's
opposites-after_values : (shape : Shape) (x : List Bool) → IsPlaced (length x) shape → with_opposites shape (with_values shape x) ≡ with_opposites shape x
opposites-after_values (Up i) x placed = set-set x i false true
opposites-after_values (Down i) x placed = set-set x i true false
opposites-after_values (Swap i j a b) x placed =
    let apart : j ≢ i = omega (arith, placed.0) in
    ap (λ y. set y j (not b)) (set_comm (set x i a) j i b (not a) apart) ∙ (set-set (set (set x i a) i (not a)) j b (not b) ∙ ap (λ y. set y j (not b)) (set-set x i a (not a)))

-- a claim that holds has no vector that breaks it
pub no_break : (net : Net) (k : ℕ) (shape : Shape) → ShapeHolds net k shape → ShapeFails net k shape → ⊥
no_break net k shape holds (x, breaks) =
    let before : output_bit net k (with_values shape x) ≡ true = ap (output_bit net k) (with_values-same shape x breaks.values) ∙ breaks.before in
    false≢true (sym breaks.after ∙ holds x breaks.inputs before)

-- a fall gives a vector that breaks the claim
pub fall : (net : Net) (k : ℕ) (shape : Shape) (x : List Bool) → IsPlaced net.inputs shape → length x ≡ net.inputs → output_bit net k (with_values shape x) ≡ true → output_bit net k (with_opposites shape x) ≡ false → BreaksShape net k shape (with_values shape x)
fall net k shape x placed len before after =
    let within : IsPlaced (length x) shape = subst (λ n. IsPlaced n shape) (sym len) placed in
    record {
      inputs = length-with_values shape x ∙ len;
      values = HasValues-with_values shape x within;
      before = before;
      after = ap (output_bit net k) (opposites-after_values shape x within) ∙ after;
    }

NoFall-or : (one other : Bool) → NoFall one other ⊎ ((one ≡ true) × (other ≡ false))
NoFall-or one true = inl (λ is. refl)
NoFall-or true false = inr (refl, refl)
NoFall-or false false = inl (λ is. is)

-- the output doesn't fall from the shape's values to the opposite ones
abbrev StaysAt : Net → ℕ → Shape → List Bool → Type 0
StaysAt net k shape x = NoFall (output_bit net k (with_values shape x)) (output_bit net k (with_opposites shape x))

-- no vector whose code is below n falls, or one breaks the claim
searched : (net : Net) (k : ℕ) (shape : Shape) (count : ℕ) → IsPlaced net.inputs shape → ((code : ℕ) → code < count → StaysAt net k shape (vector_of net.inputs code)) ⊎ ShapeFails net k shape
searched net k shape zero placed = inl (λ code h. absurd (omega arith))
searched net k shape (suc count) placed =
    elim (searched net k shape count placed) [
      | inr fails ↦ inr fails
      | inl none ↦
          elim (NoFall-or (output_bit net k (with_values shape (vector_of net.inputs count))) (output_bit net k (with_opposites shape (vector_of net.inputs count)))) [
            | inr falls ↦ inr (with_values shape (vector_of net.inputs count), fall net k shape (vector_of net.inputs count) placed (length-vector_of net.inputs count) falls.0 falls.1)
            | inl here ↦ inl (λ code h. at code h none here (cases_lt code count))
          ]
    ]
  where
    at : (code : ℕ) → code < suc count → ((code : ℕ) → code < count → StaysAt net k shape (vector_of net.inputs code)) → StaysAt net k shape (vector_of net.inputs count) → (code < count) ⊎ (count ≤ code) → StaysAt net k shape (vector_of net.inputs code)
    at code h none here (inl less) = none code less
    at code h none here (inr past) =
        let e : count ≡ code = omega arith in
        subst (λ code. StaysAt net k shape (vector_of net.inputs code)) e here

pub holds_or_fails : (net : Net) (k : ℕ) (shape : Shape) → IsPlaced net.inputs shape → ShapeHolds net k shape ⊎ ShapeFails net k shape
holds_or_fails net k shape placed =
    elim (searched net k shape (2 ^ net.inputs) placed) [
      | inr fails ↦ inr fails
      | inl none ↦ inl (λ x len. each x len none)
    ]
  where
    each : (x : List Bool) → length x ≡ net.inputs → ((code : ℕ) → code < 2 ^ net.inputs → StaysAt net k shape (vector_of net.inputs code)) → StaysAt net k shape x
    each x len none =
        let is : vector_of net.inputs (code_of x) ≡ x = ap (λ n. vector_of n (code_of x)) (sym len) ∙ sym (vector_of-code_of x) in
        subst (StaysAt net k shape) is (none (code_of x) (subst (λ n. code_of x < 2 ^ n) len (code_of-below x)))

pub no_fall_both : (one other : Bool) → NoFall one other → NoFall other one → one ≡ other
no_fall_both true true there back = refl
no_fall_both true false there back = sym (there refl)
no_fall_both false true there back = back refl
no_fall_both false false there back = refl

-- two bits are the same on all vectors exactly where neither falls to the other on any
same-falls : (n : ℕ) (one other : List Bool → Bool) → ((x : List Bool) → length x ≡ n → one x ≡ other x) ↔ (((x : List Bool) → length x ≡ n → NoFall (one x) (other x)) × ((x : List Bool) → length x ≡ n → NoFall (other x) (one x)))
same-falls n one other = (
  λ same. (λ x len is. sym (same x len) ∙ is, λ x len is. same x len ∙ is),
  λ both x len. no_fall_both (one x) (other x) (both.0 x len) (both.1 x len),
)

pub symmetric-swaps : (net : Net) (k i j : ℕ) → IsSymmetric net.inputs (output_bit net k) i j ↔ (ShapeHolds net k (Swap i j false true) × ShapeHolds net k (Swap i j true false))
symmetric-swaps net k i j = same-falls net.inputs (cofactor (output_bit net k) i false j true) (cofactor (output_bit net k) i true j false)

pub skew-swaps : (net : Net) (k i j : ℕ) → IsSkew net.inputs (output_bit net k) i j ↔ (ShapeHolds net k (Swap i j false false) × ShapeHolds net k (Swap i j true true))
skew-swaps net k i j = same-falls net.inputs (cofactor (output_bit net k) i false j false) (cofactor (output_bit net k) i true j true)

pub binate-fails : (net : Net) (k i : ℕ) → i < net.inputs → IsBinate net.inputs (output_bit net k) i ↔ (ShapeFails net k (Up i) × ShapeFails net k (Down i))
binate-fails net k i there = (
  λ binate. (fails (Up i) there binate.0, fails (Down i) there binate.1),
  λ both. (λ holds. no_break net k (Up i) holds both.0, λ holds. no_break net k (Down i) holds both.1),
)
  where
    fails : (shape : Shape) → IsPlaced net.inputs shape → (ShapeHolds net k shape → ⊥) → ShapeFails net k shape
    fails shape placed never = elim (holds_or_fails net k shape placed) [ inl holds ↦ absurd (never holds) | inr found ↦ found ]

pub outside-holds : (net : Net) (k i : ℕ) → i < net.inputs → OutsideSupport net.inputs (output_bit net k) i ↔ (ShapeHolds net k (Up i) × ShapeHolds net k (Down i))
outside-holds net k i there = (λ same. both.0 (λ x len. changed same x len), λ holds x len. unchanged x (both.1 holds x len) (cases_Bool (bit x i)))
  where
    both : ((x : List Bool) → length x ≡ net.inputs → output_bit net k (set x i false) ≡ output_bit net k (set x i true)) ↔ (ShapeHolds net k (Up i) × ShapeHolds net k (Down i))
    both = same-falls net.inputs (λ x. output_bit net k (set x i false)) (λ x. output_bit net k (set x i true))

    changed : OutsideSupport net.inputs (output_bit net k) i → (x : List Bool) → length x ≡ net.inputs → output_bit net k (set x i false) ≡ output_bit net k (set x i true)
    changed same x len =
        let read : bit (set x i false) i ≡ false = get_or-set_same x i false false (omega (arith, there, len)) in
        same (set x i false) (length-set x i false ∙ len) ∙ ap (output_bit net k) (ap (λ c. set (set x i false) i (not c)) read ∙ set-set x i false true)

    unchanged : (x : List Bool) → output_bit net k (set x i false) ≡ output_bit net k (set x i true) → (bit x i ≡ true) ⊎ (bit x i ≡ false) → output_bit net k x ≡ output_bit net k (set x i (not (bit x i)))
    unchanged x same (inl is) = ap (output_bit net k) (sym (set-here x i true is)) ∙ (sym same ∙ ap (λ b. output_bit net k (set x i (not b))) (sym is))
    unchanged x same (inr is) = ap (output_bit net k) (sym (set-here x i false is)) ∙ (same ∙ ap (λ b. output_bit net k (set x i (not b))) (sym is))

pub inside-fails : (net : Net) (k i : ℕ) → i < net.inputs → InSupport net.inputs (output_bit net k) i ↔ (ShapeFails net k (Up i) ⊎ ShapeFails net k (Down i))
inside-fails net k i there = (some, back)
  where
    some : InSupport net.inputs (output_bit net k) i → ShapeFails net k (Up i) ⊎ ShapeFails net k (Down i)
    some (x, len, apart) =
        elim (holds_or_fails net k (Up i) there) [
          | inr fails ↦ inl fails
          | inl up ↦
              elim (holds_or_fails net k (Down i) there) [
                | inr fails ↦ inr fails
                | inl down ↦ absurd (apart ((outside-holds net k i there).1 (up, down) x len))
              ]
        ]

    changes : (x : List Bool) (b : Bool) → length x ≡ net.inputs → bit x i ≡ b → output_bit net k x ≡ true → output_bit net k (set x i (not b)) ≡ false → InSupport net.inputs (output_bit net k) i
    changes x b len value before after =
        (x, len, λ same. false≢true (sym (ap (λ c. output_bit net k (set x i (not c))) value ∙ after) ∙ (sym same ∙ before)))

    back : ShapeFails net k (Up i) ⊎ ShapeFails net k (Down i) → InSupport net.inputs (output_bit net k) i
    back (inl (x, breaks)) = changes x false breaks.inputs breaks.values breaks.before breaks.after
    back (inr (x, breaks)) = changes x true breaks.inputs breaks.values breaks.before breaks.after
