-- That a signed bijection moves each vector to exactly one.
use Rattle.std.proofs.Common.{get_or, Any, take, ℕ, zero, suc, ◌+◌, ◌<◌, ◌≤◌, ◌≡◌, ◌≢◌, Bool, true, false, eqb, List, [], ◌∷◌, length, map, drop, AllPairs, refl, sym, ap, ◌∙◌, inl, inr, arith, ext_get_or, eq-eqb, ne_eqb, eqb-true}
use Rattle.std.proofs.lemmas.Bool.{cases_lt, cases_Bool, or_cases, or_parts, cond-true, cond-false}
use Rattle.std.proofs.lemmas.Bool.Decides.{Decides-eqb}
use Rattle.std.proofs.lemmas.List.{length-take, get_or-take, get_or_default, length-map, get_or-map, get_or-drop}
use Rattle.std.proofs.lemmas.List.FromFn.{length-map-range_with_len, get_or-map-range_with_len}
use Rattle.std.proofs.lemmas.Map.Keys.{IsDistinct-cons}
use Rattle.std.proofs.lemmas.Map.Made.{IsDistinct-from_AllPairs}
use Rattle.std.proofs.lemmas.Map.Steps.{length-le_from_distinct_below}
use Rattle.std.specs.List.{AllByRecursion, list_any}
use Rattle.circuits.specs.Literals.{bit, differ}
use Rattle.circuits.specs.Bijections.{IsSignedBijection, Moves, place_of, sign_of, bit_sent, moved}

-- the places that the entries name
abbrev pub places_of : List (ℕ × Bool) → List ℕ
places_of p = map (λ entry. entry.0) p

-- some entry goes to a place
abbrev pub GoesTo : List (ℕ × Bool) → ℕ → Type 0
GoesTo p place = (i : ℕ) × (i < length p) × (place_of p i ≡ place)

pub GoesTo-from_any : (place : ℕ) (p : List (ℕ × Bool)) → list_any (eqb place) (places_of p) ≡ true → GoesTo p place
GoesTo-from_any place [] h = cc
GoesTo-from_any place (entry ∷ p) h =
    elim (or_cases (eqb place entry.0) (list_any (eqb place) (places_of p)) h) [
      | inl e ↦ (0, omega arith, sym (eqb-true place entry.0 e))
      | inr e ↦ let later = GoesTo-from_any place p e in (suc later.0, omega (arith, later.1), later.2)
    ]

pub apart_from_any : (place : ℕ) (ks : List ℕ) → list_any (eqb place) ks ≡ false → AllByRecursion (λ k. eqb place k ≡ false) ks
apart_from_any place [] h = tt
apart_from_any place (k ∷ ks) h =
    let parts = or_parts (eqb place k) (list_any (eqb place) ks) h in
    (parts.0, apart_from_any place ks parts.1)

pub places_of-distinct : (p : List (ℕ × Bool)) → AllPairs (λ (one other : ℕ × Bool). one.0 ≢ other.0) p → AllPairs (λ (one other : ℕ). one ≢ other) (places_of p)
places_of-distinct p distinct i j d l h e =
    let within : j < length p = omega (arith, length-map p (λ (entry : ℕ × Bool). entry.0)) in
    distinct i j (0, false) l within (sym (get_or-map (λ (entry : ℕ × Bool). entry.0) p i (0, false) d (omega arith)) ∙ (e ∙ get_or-map (λ (entry : ℕ × Bool). entry.0) p j (0, false) d within))

-- each place has an entry, since n places hold no more than n entries
pub IsSignedBijection-onto : (n : ℕ) (p : List (ℕ × Bool)) → IsSignedBijection n p → (place : ℕ) → place < n → GoesTo p place
IsSignedBijection-onto n p bijection place h =
    elim (cases_Bool (list_any (eqb place) (places_of p))) [
      | inl e ↦ GoesTo-from_any place p e
      | inr e ↦ absurd (omega (arith, too_many e, length-map p (λ (entry : ℕ × Bool). entry.0), bijection.entries))
    ]
  where
    below : (q : ℕ) → list_any (eqb q) (place ∷ places_of p) ≡ true → q < n
    below q any =
        elim (or_cases (eqb q place) (list_any (eqb q) (places_of p)) any) [
          | inl e ↦ omega (arith, eqb-true q place e)
          | inr e ↦ let at = GoesTo-from_any q p e in omega (arith, at.2, bijection.in_range at.0 (0, false) at.1)
        ]

    too_many : list_any (eqb place) (places_of p) ≡ false → length (place ∷ places_of p) ≤ n
    too_many e =
        length-le_from_distinct_below (place ∷ places_of p) n (IsDistinct-cons eqb place (places_of p) (apart_from_any place (places_of p) e) (IsDistinct-from_AllPairs Decides-eqb (places_of p) (places_of-distinct p bijection.distinct))) below

pub bit_sent-place : (p : List (ℕ × Bool)) (x : List Bool) (i : ℕ) → AllPairs (λ (one other : ℕ × Bool). one.0 ≢ other.0) p → i < length p → bit_sent p x (place_of p i) ≡ differ (bit x i) (sign_of p i)
bit_sent-place [] x i distinct h = absurd (omega arith)
bit_sent-place (entry ∷ p) x zero distinct h =
    cond-true (eqb entry.0 entry.0) (differ (bit x 0) entry.1) (bit_sent p (drop 1 x) entry.0) (eq-eqb entry.0 entry.0 refl)
bit_sent-place (entry ∷ p) x (suc i) distinct h =
    let apart = ne_eqb entry.0 (place_of p i) (distinct 0 (suc i) (0, false) (omega arith) h) in
    let next : 1 + i ≡ suc i = omega arith in
    cond-false (eqb entry.0 (place_of p i)) (differ (bit x 0) entry.1) (bit_sent p (drop 1 x) (place_of p i)) apart ∙ (bit_sent-place p (drop 1 x) i (λ j k d l m. distinct (suc j) (suc k) d (omega arith) (omega arith)) (omega arith) ∙ ap (λ b. differ b (sign_of p i)) (get_or-drop 1 x i false ∙ ap (λ k. bit x k) next))

pub bit-moved : (p : List (ℕ × Bool)) (x : List Bool) (place : ℕ) → place < length x → bit (moved p x) place ≡ bit_sent p x place
bit-moved p x place h =
    get_or-map-range_with_len (bit_sent p x) 0 (length x) place place false h (omega arith)

pub length-moved : (p : List (ℕ × Bool)) (x : List Bool) → length (moved p x) ≡ length x
length-moved p x = length-map-range_with_len (bit_sent p x) 0 (length x)

pub moved-moves : (p : List (ℕ × Bool)) (x : List Bool) → IsSignedBijection (length x) p → Moves p x (moved p x)
moved-moves p x bijection = record {
  same_length = length-moved p x;
  bits = λ i h. bit-moved p x (place_of p i) (bijection.in_range i (0, false) h) ∙ bit_sent-place p x i bijection.distinct h;
}

pub moved-only : (p : List (ℕ × Bool)) (x y : List Bool) → IsSignedBijection (length x) p → Moves p x y → y ≡ moved p x
moved-only p x y bijection moves =
    ext_get_or false y (moved p x) (moves.same_length ∙ sym (length-moved p x)) same
  where
    same : (place : ℕ) → place < length y → bit y place ≡ bit (moved p x) place
    same place h =
        let at = IsSignedBijection-onto (length x) p bijection place (omega (arith, moves.same_length)) in
        let first = ap (λ k. bit y k) (sym at.2) ∙ moves.bits at.0 at.1 in
        let second = ap (λ k. bit (moved p x) k) (sym at.2) ∙ (moved-moves p x bijection).bits at.0 at.1 in
        first ∙ sym second

-- an entry that goes where an earlier one goes
pub not_apart : (p : List (ℕ × Bool)) (i : ℕ) → i < length p → Any (λ (entry : ℕ × Bool). entry.0 ≡ (get_or p i (0, false)).0) (take i p) → AllPairs (λ (one other : ℕ × Bool). one.0 ≢ other.0) p → ⊥
not_apart p i h any pairs =
    let before : any.0 < i = omega (arith, any.2, length-take i p) in
    let same : get_or p any.0 any.1 ≡ any.1 = sym (get_or-take i p any.0 any.1 before) ∙ any.3 in
    pairs any.0 i any.1 before h (ap (λ (entry : ℕ × Bool). entry.0) same ∙ (any.4 ∙ ap (λ (entry : ℕ × Bool). entry.0) (get_or_default p i (0, false) any.1 h)))

-- one more entry, which goes where none before it goes
pub apart_more : (p : List (ℕ × Bool)) (i : ℕ) → i < length p → (Any (λ (entry : ℕ × Bool). entry.0 ≡ (get_or p i (0, false)).0) (take i p) → ⊥) → ((j k : ℕ) (d : ℕ × Bool) → j < k → k < i → (get_or p j d).0 ≢ (get_or p k d).0) → (j k : ℕ) (d : ℕ × Bool) → j < k → k < i + 1 → (get_or p j d).0 ≢ (get_or p k d).0
apart_more p i h none apart j k d l m =
    elim (cases_lt k i) [ inl n ↦ apart j k d l n | inr n ↦ last (omega arith) ]
  where
    last : k ≡ i → (get_or p j d).0 ≢ (get_or p k d).0
    last e same =
        let before : j < i = omega arith in
        let within : j < length (take i p) = omega (arith, length-take i p) in
        let stays : get_or (take i p) j (get_or p j d) ≡ get_or p j d = get_or-take i p j (get_or p j d) before ∙ get_or_default p j (get_or p j d) d (omega arith) in
        let here : get_or p k d ≡ get_or p i (0, false) = ap (λ n. get_or p n d) e ∙ get_or_default p i d (0, false) h in
        none (j, get_or p j d, within, stays, same ∙ ap (λ (entry : ℕ × Bool). entry.0) here)
