-- The two feeds of a claim's query differ at the inputs of the claim's shape, and nowhere else.
use Rattle.std.proofs.Common.{eq-eqb, not, take, replicate, ◌≡◌, ◌⊎◌, ℕ, zero, suc, ◌+◌, ◌<◌, ◌≤◌, ◌==◌, ◌&&◌, ◌||◌, cond, Bool, true, false, List, ◌∷◌, length, set, slice_index_or, inl, inr, refl, sym, ap, ◌∙◌, arith}
use Rattle.std.specs.Bool.{beq}
use Rattle.std.proofs.Math.Bool.{or-false}
use Rattle.std.proofs.lemmas.Bool.Decides.{eqb_tells}
use Rattle.std.proofs.lemmas.List.{ext_get_or, get_or-set_same, get_or-set_other, get_or-take, length-replicate, length-set, length-take-le}
use Rattle.circuits.specs.Literals.{bit}
use Rattle.claim_core.specs.declared.claims.Shape.{Shape}
use Rattle.claim_core.specs.declared.claims.Shape.TheVariants.{Up, Down, Swap}
use Rattle.claim_core.specs.declared.query.Feed.{Feed}
use Rattle.claim_core.specs.declared.query.Feed.TheVariants.{Fixed, Wire}
use Rattle.claim_core.specs.Claims.{IsPlaced}
use Rattle.claim_core.specs.ClaimQueries.{opposite_shape, values_feed}
use Rattle.claim_core.specs.Feeds.{value_at}
use Rattle.claim_core.specs.Formulas.{feeds_differ, same_feed}
use Rattle.claim_core.proofs.ClaimQueryLemmas.{values_count}
use Rattle.claim_core.proofs.FeedLemmas.{values_at}
use Rattle.claim_core.proofs.FormulaLemmas.{length-feeds_differ}
use Rattle.query_core.specs.Reaching.{with_shape}
use Rattle.query_core.proofs.ReachingLemmas.{differ_at}

-- an input is one of the shape's
abbrev is_in : Shape → ℕ → Bool
is_in (Up i) k = k == i
is_in (Down i) k = k == i
is_in (Swap i j a b) k = (k == j) || (k == i)

opposite_differs : (b : Bool) → not (beq b (not b)) ≡ true
opposite_differs true = refl
opposite_differs false = refl

own_same : (k : ℕ) → not (same_feed (Wire k false) (Wire k false)) ≡ false
own_same k = ap (λ t. not (t && beq false false)) (eq-eqb k k refl)

fixed_differs : (t : Bool) (a b : Bool) (k : ℕ) → not (beq a b) ≡ true → not (same_feed (cond t (Fixed a) (Wire k false)) (cond t (Fixed b) (Wire k false))) ≡ t
fixed_differs true a b k apart = apart
fixed_differs false a b k apart = own_same k

swap_differs : (t u : Bool) (a b : Bool) (k : ℕ) → not (same_feed (cond t (Fixed b) (cond u (Fixed a) (Wire k false))) (cond t (Fixed (not b)) (cond u (Fixed (not a)) (Wire k false)))) ≡ (t || u)
swap_differs true u a b k = opposite_differs b
swap_differs false u a b k = fixed_differs u a (not a) k (opposite_differs a)

shape_differs : (shape : Shape) (k : ℕ) → not (same_feed (value_at shape k) (value_at (opposite_shape shape) k)) ≡ is_in shape k
shape_differs (Up i) k = fixed_differs (k == i) false true k refl
shape_differs (Down i) k = fixed_differs (k == i) true false k refl
shape_differs (Swap i j a b) k = swap_differs (k == j) (k == i) a b k

-- the marks of its inputs, and no others
unmarked : (n s : ℕ) → bit (replicate n false) s ≡ false
unmarked zero s = refl
unmarked (suc n) zero = refl
unmarked (suc n) (suc s) = unmarked n s

set_input : (marked : List Bool) (i k : ℕ) → i + 1 < length marked → bit (set marked (i + 1) true) (k + 1) ≡ ((k == i) || bit marked (k + 1))
set_input marked i k there =
    elim (eqb_tells k i) [
      | inl (found, same) ↦
          ap (bit (set marked (i + 1) true)) (ap (λ n. n + 1) same) ∙ (get_or-set_same marked (i + 1) true false there ∙ sym (ap (λ t. t || bit marked (k + 1)) found))
      | inr (found, apart) ↦
          get_or-set_other marked (i + 1) (k + 1) true false (λ e. apart (omega (arith, e))) ∙ sym (ap (λ t. t || bit marked (k + 1)) found)
    ]

one_input : (n i k : ℕ) → i + 1 < n → bit (set (replicate n false) (i + 1) true) (k + 1) ≡ (k == i)
one_input n i k there =
    set_input (replicate n false) i k (omega (arith, there, length-replicate n false)) ∙ (ap (λ b. (k == i) || b) (unmarked n (k + 1)) ∙ or-false (k == i))

shape_marked : (shape : Shape) (n signals k : ℕ) → IsPlaced n shape → n < signals → bit (with_shape shape (replicate signals false)) (k + 1) ≡ is_in shape k
shape_marked (Up i) n signals k placed room = one_input signals i k (omega (arith, placed, room))
shape_marked (Down i) n signals k placed room = one_input signals i k (omega (arith, placed, room))
shape_marked (Swap i j a b) n signals k placed room =
    let first = set (replicate signals false) (i + 1) true in
    let size : length first ≡ signals = length-set (replicate signals false) (i + 1) true ∙ length-replicate signals false in
    set_input first j k (omega (arith, placed.1, room, size)) ∙ ap (λ b. (k == j) || b) (one_input signals i k (omega (arith, placed.0, placed.1, room)))

pub shape_size : (shape : Shape) (marked : List Bool) → length (with_shape shape marked) ≡ length marked
shape_size (Up i) marked = length-set marked (i + 1) true
shape_size (Down i) marked = length-set marked (i + 1) true
shape_size (Swap i j a b) marked = length-set (set marked (i + 1) true) (j + 1) true ∙ length-set marked (i + 1) true

-- what isn't the signal of an input has no mark
pub shape_rest : (shape : Shape) (n signals s : ℕ) → IsPlaced n shape → (s ≡ 0) ⊎ (n < s) → bit (with_shape shape (replicate signals false)) s ≡ false
shape_rest (Up i) n signals s placed (inl low) = get_or-set_other (replicate signals false) (i + 1) s true false (λ e. omega (arith, e, low)) ∙ unmarked signals s
shape_rest (Up i) n signals s placed (inr high) =
    get_or-set_other (replicate signals false) (i + 1) s true false (λ e. omega (arith, e, high, placed)) ∙ unmarked signals s
shape_rest (Down i) n signals s placed (inl low) = get_or-set_other (replicate signals false) (i + 1) s true false (λ e. omega (arith, e, low)) ∙ unmarked signals s
shape_rest (Down i) n signals s placed (inr high) =
    get_or-set_other (replicate signals false) (i + 1) s true false (λ e. omega (arith, e, high, placed)) ∙ unmarked signals s
shape_rest (Swap i j a b) n signals s placed (inl low) =
    let first = set (replicate signals false) (i + 1) true in
    get_or-set_other first (j + 1) s true false (λ e. omega (arith, e, low)) ∙ (get_or-set_other (replicate signals false) (i + 1) s true false (λ e. omega (arith, e, low)) ∙ unmarked signals s)
shape_rest (Swap i j a b) n signals s placed (inr high) =
    let first = set (replicate signals false) (i + 1) true in
    get_or-set_other first (j + 1) s true false (λ e. omega (arith, e, high, placed.1))
    ∙ (get_or-set_other (replicate signals false) (i + 1) s true false (λ e. omega (arith, e, high, placed.0, placed.1)) ∙ unmarked signals s)

-- the constant and the inputs have the marks of inputs whose two feeds differ
pub shape_start : (n signals : ℕ) (shape : Shape) → IsPlaced n shape → n < signals → take (n + 1) (with_shape shape (replicate signals false)) ≡ false ∷ feeds_differ (values_feed n shape) (values_feed n (opposite_shape shape))
shape_start n signals shape placed room =
    ext_get_or false (take (n + 1) marked) (false ∷ feeds_differ left right) (omega (arith, size, count, differing)) each
  where
    marked : List Bool
    marked = with_shape shape (replicate signals false)

    left : List Feed
    left = values_feed n shape

    right : List Feed
    right = values_feed n (opposite_shape shape)

    count : length left ≡ n
    count = values_count n shape

    same : length left ≡ length right
    same = count ∙ sym (values_count n (opposite_shape shape))

    differing : length (feeds_differ left right) ≡ length left
    differing = length-feeds_differ left right same

    size : length (take (n + 1) marked) ≡ n + 1
    size = length-take-le (n + 1) marked (omega (arith, room, shape_size shape (replicate signals false), length-replicate signals false))

    each : (s : ℕ) → s < length (take (n + 1) marked) → bit (take (n + 1) marked) s ≡ bit (false ∷ feeds_differ left right) s
    each zero below = get_or-take (n + 1) marked 0 false (omega (arith, below, size)) ∙ shape_rest shape n signals 0 placed (inl refl)
    each (suc k) below =
        let low : k < n = omega (arith, below, size) in
        let none : Feed = Fixed false in
        let at : suc k ≡ k + 1 = omega arith in
        get_or-take (n + 1) marked (suc k) false (omega (arith, below, size))
        ∙ (ap (bit marked) at
        ∙ (shape_marked shape n signals k placed room
        ∙ (sym (shape_differs shape k)
        ∙ (ap (λ f. not (same_feed f (value_at (opposite_shape shape) k))) (sym (values_at n k shape none low))
        ∙ (ap (λ f. not (same_feed (slice_index_or left k none) f)) (sym (values_at n k (opposite_shape shape) none low)) ∙ sym (differ_at left right k none none same (omega (arith, low, count))))))))

-- a shape's inputs are among more
pub placed_within : (n m : ℕ) (shape : Shape) → IsPlaced n shape → n ≤ m → IsPlaced m shape
placed_within n m (Up i) placed within = omega (arith, placed, within)
placed_within n m (Down i) placed within = omega (arith, placed, within)
placed_within n m (Swap i j a b) placed within = (placed.0, omega (arith, placed.1, within))
