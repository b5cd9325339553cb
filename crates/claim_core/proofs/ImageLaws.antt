-- Under a match that has all pairs, a claim holds exactly where its image holds.
use Rattle.std.proofs.Common.{◌≡◌, ◌≢◌, ◌⊎◌, ◌↔◌, ℕ, ◌<◌, ◌≤◌, Bool, true, false, not, cond, List, length, map, set, Some, nat_lt, option_map, inl, inr, refl, sym, ap, subst, ◌∙◌, arith}
use Rattle.std.specs.List.{range_with_len}
use Rattle.std.proofs.lemmas.Bool.{cases_lt, false≢true, ltb-true, lt-ltb}
use Rattle.std.proofs.lemmas.Bool.Decides.{eqb_tells}
use Rattle.std.proofs.lemmas.List.{length-set, get_or-set_same, get_or-set_other, set_comm}
use Rattle.std.proofs.lemmas.List.FromFn.{get_or-map-range_with_len, length-map-range_with_len}
use Rattle.circuits.specs.Literals.{bit, differ}
use Rattle.circuits.specs.Netlists.{Net, function_of}
use Rattle.circuits.specs.Bijections.{IsSignedBijection, Moves, moved, place_of, sign_of}
use Rattle.circuits.specs.Matches.{IsMatchOfFunctions}
use Rattle.circuits.specs.declared.port.PortKind.TheVariants.{Input, Output}
use Rattle.circuits.specs.declared.port.Pair.{Pair}
use Rattle.circuits.proofs.Expansions.{differ_false, differ_true, differ_both}
use Rattle.circuits.proofs.Places.{length-moved, moved-moves, moved-only}
use Rattle.net_core.specs.Sides.{Graphs}
use Rattle.net_core.specs.declared.graphs.Side.{Side}
use Rattle.net_core.specs.declared.graphs.Side.TheVariants.{First}
use Rattle.net_core.specs.Sides.{graph_of}
use Rattle.claim_core.specs.declared.claims.Shape.{Shape}
use Rattle.claim_core.specs.declared.claims.Shape.TheVariants.{Up, Down, Swap}
use Rattle.claim_core.specs.declared.claims.Claim.{Claim}
use Rattle.claim_core.specs.Claims.{Holds, IsClaim, IsPlaced, NoFall, ShapeHolds, output_bit, with_input, with_opposites, with_values}
use Rattle.claim_core.specs.Images.{Extends, claim_of_second, image_of, moved_one, moved_shape, moved_two, moved_value, one_input, pair_of, two_inputs}
use Rattle.claim_core.proofs.ClaimLaws.{length-with_opposites, length-with_values}
use Rattle.claim_core.proofs.ImageLemmas.{IsEntry, chained, mapped, pair-goes}

-- two places of a signed bijection are different
places_differ : (n : ℕ) (p : List (ℕ × Bool)) (i j : ℕ) → IsSignedBijection n p → i < length p → j < length p → i ≢ j → place_of p i ≢ place_of p j
places_differ n p i j bijection here there apart same =
    elim (cases_lt i j) [
      | inl less ↦ bijection.distinct i j (0, false) less there same
      | inr more ↦ bijection.distinct j i (0, false) (omega (arith, more, apart)) here (sym same)
    ]

-- an input that is set before the move is set at its place after it
pub moved-set : (p : List (ℕ × Bool)) (x : List Bool) (i : ℕ) (a : Bool) → IsSignedBijection (length x) p → i < length p → moved p (with_input i a x) ≡ with_input (place_of p i) (differ a (sign_of p i)) (moved p x)
moved-set p x i a bijection there =
    sym (moved-only p (set x i a) (set (moved p x) (place_of p i) (differ a (sign_of p i))) (subst (λ n. IsSignedBijection n p) (sym (length-set x i a)) bijection) moves)
  where
    in_place : (j : ℕ) → j < length p → place_of p j < length (moved p x)
    in_place j below = omega (arith, bijection.in_range j (0, false) below, length-moved p x)

    moves : Moves p (set x i a) (set (moved p x) (place_of p i) (differ a (sign_of p i)))
    moves = record {
      same_length = length-set (moved p x) (place_of p i) (differ a (sign_of p i)) ∙ (length-moved p x ∙ sym (length-set x i a));
      bits = λ j below.
          elim (eqb_tells j i) [
            | inl (found, e) ↦ here j e
            | inr (found, apart) ↦
                get_or-set_other (moved p x) (place_of p i) (place_of p j) (differ a (sign_of p i)) false (places_differ (length x) p j i bijection below there apart)
                ∙ ((moved-moves p x bijection).bits j below ∙ ap (λ b. differ b (sign_of p j)) (sym (get_or-set_other x i j a false apart)))
          ];
    }
      where
        here : (j : ℕ) → j ≡ i → bit (set (moved p x) (place_of p i) (differ a (sign_of p i))) (place_of p j) ≡ differ (bit (set x i a) j) (sign_of p j)
        here j e =
            let own : bit (set (moved p x) (place_of p i) (differ a (sign_of p i))) (place_of p i) ≡ differ (bit (set x i a) i) (sign_of p i) =
            get_or-set_same (moved p x) (place_of p i) (differ a (sign_of p i)) false (in_place i there) ∙ ap (λ b. differ b (sign_of p i)) (sym (get_or-set_same x i a false (omega (arith, there, bijection.entries)))) in
            subst (λ k. bit (set (moved p x) (place_of p i) (differ a (sign_of p i))) (place_of p k) ≡ differ (bit (set x i a) k) (sign_of p k)) (sym e) own

-- each vector is moved from one
abbrev unmoved : List (ℕ × Bool) → List Bool → List Bool
unmoved p y = map (λ i. differ (bit y (place_of p i)) (sign_of p i)) (range_with_len 0 (length y))

length-unmoved : (p : List (ℕ × Bool)) (y : List Bool) → length (unmoved p y) ≡ length y
length-unmoved p y = length-map-range_with_len (λ i. differ (bit y (place_of p i)) (sign_of p i)) 0 (length y)

moved-unmoved : (p : List (ℕ × Bool)) (y : List Bool) → IsSignedBijection (length y) p → y ≡ moved p (unmoved p y)
moved-unmoved p y bijection =
    moved-only p (unmoved p y) y (subst (λ n. IsSignedBijection n p) (sym (length-unmoved p y)) bijection) (record {
      same_length = sym (length-unmoved p y);
      bits = λ i below.
          let read = get_or-map-range_with_len (λ i. differ (bit y (place_of p i)) (sign_of p i)) 0 (length y) i i false (omega (arith, below, bijection.entries)) (omega arith) in
          sym (ap (λ b. differ b (sign_of p i)) read ∙ back (bit y (place_of p i)) (sign_of p i));
    })
  where
    back : (c s : Bool) → differ (differ c s) s ≡ c
    back true true = refl
    back true false = refl
    back false true = refl
    back false false = refl

-- a shape's inputs set to its values, or to the opposite ones
abbrev set_to : Bool → Shape → List Bool → List Bool
set_to opposite shape x = cond opposite (with_opposites shape x) (with_values shape x)

length-set_to : (opposite : Bool) (shape : Shape) (x : List Bool) → length (set_to opposite shape x) ≡ length x
length-set_to true shape x = length-with_opposites shape x
length-set_to false shape x = length-with_values shape x

one-set : (opposite : Bool) (i : ℕ) (a : Bool) (x : List Bool) → set_to opposite (one_input i a) x ≡ with_input i (differ a opposite) x
one-set true i true x = refl
one-set true i false x = refl
one-set false i true x = refl
one-set false i false x = refl

swap-set : (opposite : Bool) (i j : ℕ) (a b : Bool) (x : List Bool) → set_to opposite (Swap i j a b) x ≡ with_input j (differ b opposite) (with_input i (differ a opposite) x)
swap-set true i j a b x = ap (λ c. with_input j (not b) (with_input i c x)) (sym (differ_true a)) ∙ ap (λ c. with_input j c (with_input i (differ a true) x)) (sym (differ_true b))
swap-set false i j a b x = ap (λ c. with_input j b (with_input i c x)) (sym (differ_false a)) ∙ ap (λ c. with_input j c (with_input i (differ a false) x)) (sym (differ_false b))

two-set : (opposite : Bool) (i : ℕ) (a : Bool) (j : ℕ) (b : Bool) (x : List Bool) → i ≢ j → set_to opposite (two_inputs i a j b) x ≡ with_input j (differ b opposite) (with_input i (differ a opposite) x)
two-set opposite i a j b x apart = by_order (nat_lt i j)
  where
    by_order : (less : Bool) → set_to opposite (cond less (Swap i j a b) (Swap j i b a)) x ≡ with_input j (differ b opposite) (with_input i (differ a opposite) x)
    by_order true = swap-set opposite i j a b x
    by_order false = swap-set opposite j i b a x ∙ set_comm x j i (differ b opposite) (differ a opposite) (λ e. apart (sym e))

-- A shape at its inputs' places: its values are the shape's values moved, or the opposite ones where they are exchanged.
record IsMovedShape (p : List (ℕ × Bool)) (exchanged : Bool) (n : ℕ) (shape image : Shape) : Type 0 where
  moves : (opposite : Bool) (x : List Bool) → length x ≡ n → set_to (differ opposite exchanged) image (moved p x) ≡ moved p (set_to opposite shape x)
  placed : IsPlaced n image

in_order : (b s t : Bool) → differ (differ b s) t ≡ differ (differ b t) s
in_order true true true = refl
in_order true true false = refl
in_order true false true = refl
in_order true false false = refl
in_order false true true = refl
in_order false true false = refl
in_order false false true = refl
in_order false false false = refl

-- an input is set before the move, or its place after it
put : (p : List (ℕ × Bool)) (exchanged opposite : Bool) (i : ℕ) (a : Bool) (pair : Pair) (x : List Bool) → IsSignedBijection (length x) p → IsEntry p i pair → with_input pair.to (differ (moved_value exchanged pair a) (differ opposite exchanged)) (moved p x) ≡ moved p (with_input i (differ a opposite) x)
put p exchanged opposite i a pair x bijection entry =
    let value = differ_both (differ a pair.flip) opposite exchanged ∙ (in_order a pair.flip opposite ∙ ap (differ (differ a opposite)) (sym entry.sign)) in
    ap (λ b. with_input pair.to b (moved p x)) value
    ∙ (ap (λ place. with_input place (differ (differ a opposite) (sign_of p i)) (moved p x)) (sym entry.place) ∙ sym (moved-set p x i (differ a opposite) bijection entry.there))

-- the image of a shape of one input
one-image : (p : List (ℕ × Bool)) (exchanged : Bool) (n i : ℕ) (a : Bool) (pair : Pair) → IsSignedBijection n p → IsEntry p i pair → IsMovedShape p exchanged n (one_input i a) (moved_one exchanged a pair)
one-image p exchanged n i a pair bijection entry = record {
  moves = λ opposite x same.
      let shape = subst (λ m. IsSignedBijection m p) (sym same) bijection in
      one-set (differ opposite exchanged) pair.to (moved_value exchanged pair a) (moved p x)
      ∙ (put p exchanged opposite i a pair x shape entry ∙ ap (moved p) (sym (one-set opposite i a x)));
  placed = one-placed (moved_value exchanged pair a);
}
  where
    at_place : pair.to < n
    at_place = omega (arith, bijection.in_range i (0, false) entry.there, entry.place)

    one-placed : (b : Bool) → IsPlaced n (one_input pair.to b)
    one-placed true = at_place
    one-placed false = at_place

-- the image of a shape of two inputs
two-image : (p : List (ℕ × Bool)) (exchanged : Bool) (n i j : ℕ) (a b : Bool) (first second : Pair) → IsSignedBijection n p → i ≢ j → IsEntry p i first → IsEntry p j second → IsMovedShape p exchanged n (Swap i j a b) (moved_two exchanged a b first second)
two-image p exchanged n i j a b first second bijection apart one other = record {
  moves = λ opposite x same.
      let shape = subst (λ m. IsSignedBijection m p) (sym same) bijection in
      let once = with_input i (differ a opposite) x in
      let twice = subst (λ m. IsSignedBijection m p) (sym (length-set x i (differ a opposite))) shape in
      two-set (differ opposite exchanged) first.to v second.to w (moved p x) places
      ∙ (ap (with_input second.to (differ w (differ opposite exchanged))) (put p exchanged opposite i a first x shape one)
      ∙ (put p exchanged opposite j b second once twice other ∙ ap (moved p) (sym (swap-set opposite i j a b x))));
  placed = chosen (nat_lt first.to second.to) refl;
}
  where
    v : Bool
    v = moved_value exchanged first a

    w : Bool
    w = moved_value exchanged second b

    places : first.to ≢ second.to
    places e = places_differ n p i j bijection one.there other.there apart (one.place ∙ (e ∙ sym other.place))

    first_place : first.to < n
    first_place = omega (arith, bijection.in_range i (0, false) one.there, one.place)

    second_place : second.to < n
    second_place = omega (arith, bijection.in_range j (0, false) other.there, other.place)

    chosen : (less : Bool) → nat_lt first.to second.to ≡ less → IsPlaced n (cond less (Swap first.to second.to v w) (Swap second.to first.to w v))
    chosen true e = (ltb-true first.to second.to e, second_place)
    chosen false e = (after (cases_lt first.to second.to), first_place)
      where
        after : (first.to < second.to) ⊎ (second.to ≤ first.to) → second.to < first.to
        after (inl less) = absurd (false≢true (sym e ∙ lt-ltb first.to second.to less))
        after (inr more) = omega (arith, more, places)

shape_moves : (pairs : List Pair) (p q : List (ℕ × Bool)) (exchanged : Bool) (n : ℕ) (shape image : Shape) → IsSignedBijection n p → Extends pairs p q → IsPlaced n shape → moved_shape pairs exchanged shape ≡ Some image → IsMovedShape p exchanged n shape image
shape_moves pairs p q exchanged n (Up i) image bijection extends placed is =
    let found = mapped (moved_one exchanged false) (pair_of pairs Input i) image is in
    subst (IsMovedShape p exchanged n (Up i)) found.2 (one-image p exchanged n i false found.0 bijection (pair-goes pairs p q Input i found.0 extends found.1))
shape_moves pairs p q exchanged n (Down i) image bijection extends placed is =
    let found = mapped (moved_one exchanged true) (pair_of pairs Input i) image is in
    subst (IsMovedShape p exchanged n (Down i)) found.2 (one-image p exchanged n i true found.0 bijection (pair-goes pairs p q Input i found.0 extends found.1))
shape_moves pairs p q exchanged n (Swap i j a b) image bijection extends placed is =
    let first = chained (λ first. option_map (moved_two exchanged a b first) (pair_of pairs Input j)) (pair_of pairs Input i) image is in
    let second = mapped (moved_two exchanged a b first.0) (pair_of pairs Input j) image first.2 in
    let apart : i ≢ j = omega (arith, placed.0) in
    subst (IsMovedShape p exchanged n (Swap i j a b)) second.2 (two-image p exchanged n i j a b first.0 second.0 bijection apart (pair-goes pairs p q Input i first.0 extends first.1) (pair-goes pairs p q Input j second.0 extends second.1))

-- a fall of an output is a fall of its partner, or a rise where it is inverted
falls : (exchanged b c : Bool) → NoFall (differ b exchanged) (differ c exchanged) ↔ NoFall (cond exchanged c b) (cond exchanged b c)
falls true true true = (λ h is. refl, λ h is. is)
falls true true false = (λ h is. refl, λ h is. refl)
falls true false true = (λ h. h, λ h. h)
falls true false false = (λ h is. is, λ h is. refl)
falls false true true = (λ h. h, λ h. h)
falls false true false = (λ h. h, λ h. h)
falls false false true = (λ h. h, λ h. h)
falls false false false = (λ h. h, λ h. h)

-- two bits of an output, by those of its partner
sides : (exchanged : Bool) (f g : Bool → Bool) → ((opposite : Bool) → f opposite ≡ differ (g (differ opposite exchanged)) exchanged) → NoFall (f false) (f true) ↔ NoFall (g false) (g true)
sides exchanged f g is = (
  λ holds. (partners exchanged).0 (λ before. sym (is true) ∙ holds (is false ∙ before)),
  λ holds before. is true ∙ (partners exchanged).1 holds (sym (is false) ∙ before),
)
  where
    partners : (e : Bool) → NoFall (differ (g (differ false e)) e) (differ (g (differ true e)) e) ↔ NoFall (g false) (g true)
    partners true = falls true (g true) (g false)
    partners false = falls false (g false) (g true)

shape_image_holds : (first second : Net) (p q : List (ℕ × Bool)) (k : ℕ) (output : Pair) (shape image : Shape) → IsMatchOfFunctions first second p q → IsEntry q k output → IsMovedShape p output.flip first.inputs shape image → ShapeHolds first k shape ↔ ShapeHolds second output.to image
shape_image_holds first second p q k output shape image functions entry is = (there, back)
  where
    e : Bool
    e = output.flip

    -- the output's bit is its partner's, inverted where the pair is
    partner : (z : List Bool) → length z ≡ first.inputs → output_bit first k z ≡ differ (output_bit second output.to (moved p z)) e
    partner z same =
        functions.agree z same k entry.there
        ∙ (ap (λ place. differ (bit (function_of second (moved p z)) place) (sign_of q k)) entry.place ∙ ap (differ (output_bit second output.to (moved p z))) entry.sign)

    -- on one vector the claim and its image say the same
    on_one : (x : List Bool) → length x ≡ first.inputs → NoFall (output_bit first k (with_values shape x)) (output_bit first k (with_opposites shape x)) ↔ NoFall (output_bit second output.to (with_values image (moved p x))) (output_bit second output.to (with_opposites image (moved p x)))
    on_one x same =
        sides e (λ o. output_bit first k (set_to o shape x)) (λ o. output_bit second output.to (set_to o image (moved p x))) (λ o. partner (set_to o shape x) (length-set_to o shape x ∙ same) ∙ ap (λ y. differ (output_bit second output.to y) e) (sym (is.moves o x same)))

    there : ShapeHolds first k shape → ShapeHolds second output.to image
    there holds y same =
        let size : length y ≡ first.inputs = same ∙ functions.same_inputs in
        let onto = moved-unmoved p y (subst (λ n. IsSignedBijection n p) (sym size) functions.inputs) in
        let x = unmoved p y in
        let from : length x ≡ first.inputs = length-unmoved p y ∙ size in
        subst (λ z. NoFall (output_bit second output.to (with_values image z)) (output_bit second output.to (with_opposites image z))) (sym onto) ((on_one x from).0 (holds x from))

    back : ShapeHolds second output.to image → ShapeHolds first k shape
    back holds x same = (on_one x same).1 (holds (moved p x) (length-moved p x ∙ (same ∙ sym functions.same_inputs)))

-- what a claim's image is made of
record IsImage (graphs : Graphs) (p q : List (ℕ × Bool)) (claim image : Claim) : Type 0 where
  output : Pair
  shape : Shape
  entry : IsEntry q claim.output output
  moves : IsMovedShape p output.flip graphs.first.inputs claim.shape shape
  is : claim_of_second output.to shape ≡ image

image_made : (graphs : Graphs) (p q : List (ℕ × Bool)) (pairs : List Pair) (claim image : Claim) → IsMatchOfFunctions graphs.first graphs.second p q → Extends pairs p q → claim.side ≡ First → IsClaim graphs claim → image_of pairs claim ≡ Some image → IsImage graphs p q claim image
image_made graphs p q pairs claim image functions extends side claimed is =
    let out = chained (λ output. option_map (claim_of_second output.to) (moved_shape pairs output.flip claim.shape)) (pair_of pairs Output claim.output) image is in
    let shape = mapped (claim_of_second out.0.to) (moved_shape pairs out.0.flip claim.shape) image out.2 in
    let placed = subst (λ (s : Side). IsPlaced (graph_of graphs s).inputs claim.shape) side claimed.placed in
    record {
      output = out.0;
      shape = shape.0;
      entry = pair-goes pairs p q Output claim.output out.0 extends out.1;
      moves = shape_moves pairs p q out.0.flip graphs.first.inputs claim.shape shape.0 functions.inputs extends placed shape.1;
      is = shape.2;
    }

pub image_holds : (graphs : Graphs) (p q : List (ℕ × Bool)) (pairs : List Pair) (claim image : Claim) → IsMatchOfFunctions graphs.first graphs.second p q → Extends pairs p q → claim.side ≡ First → IsClaim graphs claim → image_of pairs claim ≡ Some image → Holds graphs claim ↔ Holds graphs image
image_holds graphs p q pairs claim image functions extends side claimed is =
    let made = image_made graphs p q pairs claim image functions extends side claimed is in
    let same = shape_image_holds graphs.first graphs.second p q claim.output made.output claim.shape made.shape functions made.entry made.moves in (
      λ holds. subst (Holds graphs) made.is (same.0 (subst (λ (s : Side). ShapeHolds (graph_of graphs s) claim.output claim.shape) side holds)),
      λ holds. subst (λ (s : Side). ShapeHolds (graph_of graphs s) claim.output claim.shape) (sym side) (same.1 (subst (Holds graphs) (sym made.is) holds)),
    )

pub image_placed : (graphs : Graphs) (p q : List (ℕ × Bool)) (pairs : List Pair) (claim image : Claim) → IsMatchOfFunctions graphs.first graphs.second p q → Extends pairs p q → claim.side ≡ First → IsClaim graphs claim → image_of pairs claim ≡ Some image → IsClaim graphs image
image_placed graphs p q pairs claim image functions extends side claimed is =
    let made = image_made graphs p q pairs claim image functions extends side claimed is in
    let range = functions.outputs.in_range claim.output (0, false) made.entry.there in
    let own : IsClaim graphs (claim_of_second made.output.to made.shape) = record {
      output = omega (arith, range, made.entry.place, functions.same_outputs);
      placed = subst (λ n. IsPlaced n made.shape) (sym functions.same_inputs) made.moves.placed;
    } in
    subst (IsClaim graphs) made.is own
