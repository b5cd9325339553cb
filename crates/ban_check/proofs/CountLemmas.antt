-- Facts of a tally, read from the front, and what they count.
use Rattle.std.proofs.Common.{◌≡◌, ◌⊎◌, ℕ, ◌+◌, ◌*◌, ◌<◌, ◌≤◌, ◌==◌, Bool, true, false, List, [], ◌∷◌, length, get_or, take, drop, length-drop, take_all, ◌-◌, Option, None, Some, ◌↔◌, inl, inr, refl, sym, ap, subst, ◌∙◌, arith, if◌then◌else◌}
use Rattle.std.specs.Bool.{IsTrue}
use Rattle.std.specs.List.{flat_map}
use Rattle.std.proofs.lemmas.Bool.Decides.{nat_tests}
use Rattle.std.proofs.lemmas.Slice.Zip.{AllZip-long}
use Rattle.claim_core.specs.declared.claims.Shape.{Shape}
use Rattle.claim_core.specs.declared.claims.Shape.TheVariants.{Up, Down, Swap}
use Rattle.account_core.specs.Given.{Given, fact_at}
use Rattle.account_core.specs.Tallies.{shapes_of, AreBothOfEach, AreOfEach}
use Rattle.ban_check.specs.Counted.{one_input, twin_input, AscendFrom, GoOverInputs, GoOverTwice, IsNext}
use Rattle.ban_check.proofs.BoolLemmas.{front}
use Rattle.ban_check.proofs.AscentLemmas.{ascend_more, ascend_rest, none_ascend}
use Rattle.std.proofs.lemmas.Option.{same_Some}
use Rattle.account_core.proofs.TallyLemmas.{both}

-- What is read from the front has an input, from `least` on, and the rest goes on after it.
pub record HasFront (least : ℕ) (input : Option ℕ) (Rest : ℕ → Type 0) : Type 0 where
  pub i : ℕ
  pub is : input ≡ Some i
  pub within : least ≤ i
  pub rest : Rest (i + 1)

-- what is left goes on where its front does, and only there
pub record IsByFront (least : ℕ) (input : Option ℕ) (Left : Type 0) (Rest : ℕ → Type 0) : Type 0 where
  pub split : Left → HasFront least input Rest
  pub more : HasFront least input Rest → Left

-- one step more, and none
module _ {least : ℕ} {input : Option ℕ} {Left : Type 0} {Rest : ℕ → Type 0} (P : Type 0) (front : IsByFront least input Left Rest) (so_far : Left ↔ P) where
  pub front_step : (next : ℕ) → IsNext least input next → Rest next ↔ P
  front_step next (i, is, within, next_is) = (
    (λ rest. so_far.0 (front.more (record { i = i; is = is; within = within; rest = subst Rest next_is rest }))),
    (λ p. let parts = front.split (so_far.1 p) in subst Rest (ap (λ n. n + 1) (same_Some parts.i i (sym parts.is ∙ is)) ∙ sym next_is) parts.rest),
  )

  pub front_stop : ((i : ℕ) → input ≡ Some i → least ≤ i → ⊥) → P → ⊥
  front_stop none p = let parts = front.split (so_far.1 p) in none parts.i parts.is parts.within

-- shapes of one input each

of_one : (i : ℕ) (shape : Shape) → one_input shape ≡ Some i → (shape ≡ Up i) ⊎ (shape ≡ Down i)
of_one i (Up j) e = inl (ap Up (same_Some j i e))
of_one i (Down j) e = inr (ap Down (same_Some j i e))
of_one i (Swap j k a b) e = cc

to_one : (i : ℕ) (shape : Shape) → (shape ≡ Up i) ⊎ (shape ≡ Down i) → one_input shape ≡ Some i
to_one i shape (inl e) = ap one_input e
to_one i shape (inr e) = ap one_input e

inputs_split : (least : ℕ) (inputs : List ℕ) (shape : Shape) (shapes : List Shape) → AreOfEach inputs (shape ∷ shapes) → AscendFrom least inputs → HasFront least (one_input shape) (λ n. GoOverInputs n shapes)
inputs_split least [] shape shapes each ascend = absurd each
inputs_split least (i ∷ inputs) shape shapes each ascend =
    let parts = ascend_rest least i inputs ascend in
    record {
      i = i;
      is = to_one i shape each.0;
      within = parts.0;
      rest = record { inputs = inputs; of_each = each.1; ascend = parts.1 };
    }

inputs_front : (least : ℕ) (shape : Shape) (shapes left : List Shape) → left ≡ shape ∷ shapes → IsByFront least (one_input shape) (GoOverInputs least left) (λ n. GoOverInputs n shapes)
inputs_front least shape shapes left is = record {
  split = λ all. let whole = subst (GoOverInputs least) is all in inputs_split least whole.inputs shape shapes whole.of_each whole.ascend;
  more = λ f. subst (GoOverInputs least) (sym is) (record {
    inputs = f.i ∷ f.rest.inputs;
    of_each = (of_one f.i shape f.is, f.rest.of_each);
    ascend = ascend_more least f.i f.rest.inputs f.within f.rest.ascend;
  });
}

-- the front of the facts that are left
pub inputs_next : (given : Given) (numbers : List ℕ) (k least : ℕ) → k < length numbers → IsByFront least (one_input (fact_at given (get_or numbers k 0)).claim.shape) (GoOverInputs least (shapes_of given (drop k numbers))) (λ n. GoOverInputs n (shapes_of given (drop (k + 1) numbers)))
inputs_next given numbers k least within = inputs_front least _ _ _ (ap (shapes_of given) (front numbers k 0 within))

-- shapes in twos
pub no_twos : (least : ℕ) → GoOverTwice least []
no_twos least = record { inputs = []; both_of_each = refl; ascend = none_ascend least }

of_two : (i : ℕ) (one other : Shape) → twin_input one other ≡ Some i → (one ≡ Up i) × (other ≡ Down i)
of_two i (Up j) (Down k) e =
    by (j == k) refl e
  where
    by : (b : Bool) → (j == k) ≡ b → (if b then Some j else None) ≡ Some i → (Up j ≡ Up i) × (Down k ≡ Down i)
    by true t e =
        let same : j ≡ k = grind (arith, nat_tests) in
        (ap Up (same_Some j i e), ap Down (sym same ∙ same_Some j i e))
    by false t e = cc
of_two i one other e = cc

to_two : (i : ℕ) → twin_input (Up i) (Down i) ≡ Some i
to_two i =
    let same : (i == i) ≡ true = grind (arith, nat_tests) in
    ap (λ b. if b then Some i else None) same

head_is : {X : Type 0} (x y : X) (xs ys : List X) → x ∷ xs ≡ y ∷ ys → x ≡ y
head_is {X} x y xs ys e = cc

tail_is : {X : Type 0} (x y : X) (xs ys : List X) → x ∷ xs ≡ y ∷ ys → xs ≡ ys
tail_is {X} x y xs ys e = cc

twos_split : (least : ℕ) (inputs : List ℕ) (one other : Shape) (shapes : List Shape) → AreBothOfEach inputs (one ∷ other ∷ shapes) → AscendFrom least inputs → HasFront least (twin_input one other) (λ n. GoOverTwice n shapes)
twos_split least [] one other shapes each ascend = cc
twos_split least (i ∷ inputs) one other shapes each ascend =
    let parts = ascend_rest least i inputs ascend in
    let first = head_is one (Up i) (other ∷ shapes) _ each in
    let after = tail_is one (Up i) (other ∷ shapes) _ each in
    let second = head_is other (Down i) shapes _ after in
    record {
      i = i;
      is = ap (λ s. twin_input s other) first ∙ (ap (λ s. twin_input (Up i) s) second ∙ to_two i);
      within = parts.0;
      rest = record { inputs = inputs; both_of_each = tail_is other (Down i) shapes _ after; ascend = parts.1 };
    }

twos_front : (least : ℕ) (one other : Shape) (shapes left : List Shape) → left ≡ one ∷ other ∷ shapes → IsByFront least (twin_input one other) (GoOverTwice least left) (λ n. GoOverTwice n shapes)
twos_front least one other shapes left is = record {
  split = λ all. let whole = subst (GoOverTwice least) is all in twos_split least whole.inputs one other shapes whole.both_of_each whole.ascend;
  more = λ f.
      let twins = of_two f.i one other f.is in
      subst (GoOverTwice least) (sym is) (record {
        inputs = f.i ∷ f.rest.inputs;
        both_of_each = ap (λ s. s ∷ other ∷ shapes) twins.0 ∙ (ap (λ s. Up f.i ∷ s ∷ shapes) twins.1 ∙ ap (λ ss. Up f.i ∷ Down f.i ∷ ss) f.rest.both_of_each);
        ascend = ascend_more least f.i f.rest.inputs f.within f.rest.ascend;
      });
}

pub twos_odd : (least : ℕ) (shape : Shape) → GoOverTwice least (shape ∷ []) → ⊥
twos_odd least shape whole =
    by whole.inputs whole.both_of_each
  where
    by : (inputs : List ℕ) → AreBothOfEach inputs (shape ∷ []) → ⊥
    by [] e = cc
    by (i ∷ inputs) e = cc

-- how many inputs there are
twos_length : (inputs : List ℕ) → length (flat_map both inputs) ≡ 2 * length inputs
twos_length [] = refl
twos_length (i ∷ inputs) = omega (arith, twos_length inputs)

pub inputs_count : (least : ℕ) (shapes : List Shape) (whole : GoOverInputs least shapes) → length whole.inputs ≡ length shapes
inputs_count least shapes whole = sym (AllZip-long (λ i shape. (shape ≡ Up i) ⊎ (shape ≡ Down i)) whole.inputs shapes whole.of_each)

pub twos_count : (least : ℕ) (shapes : List Shape) (whole : GoOverTwice least shapes) → length shapes ≡ 2 * length whole.inputs
twos_count least shapes whole = ap (λ (ss : List Shape). length ss) whole.both_of_each ∙ twos_length whole.inputs

-- the first two of a list, and so of the facts that are left
front_two : (xs : List ℕ) → 2 ≤ length xs → xs ≡ get_or xs 0 0 ∷ get_or xs 1 0 ∷ drop 2 xs
front_two [] long = absurd (omega (arith, long))
front_two (x ∷ []) long = absurd (omega (arith, long))
front_two (x ∷ y ∷ xs) long = refl

pub twos_next : (given : Given) (left : List ℕ) (least : ℕ) → 2 ≤ length left → IsByFront least (twin_input (fact_at given (get_or left 0 0)).claim.shape (fact_at given (get_or left 1 0)).claim.shape) (GoOverTwice least (shapes_of given left)) (λ n. GoOverTwice n (shapes_of given (drop 2 left)))
twos_next given left least long = twos_front least _ _ _ _ (ap (shapes_of given) (front_two left long))

-- what is left after the first two
pub after_two : (xs : List ℕ) → take (length xs - 2) (drop 2 xs) ≡ drop 2 xs
after_two xs = take_all (length xs - 2) (drop 2 xs) (omega (arith, length-drop 2 xs))

-- fewer than two are left
pub twos_end : (P : Type 0) (given : Given) (least : ℕ) (left : List ℕ) (none : Bool) → length left < 2 → none ≡ (length left == 0) → (GoOverTwice least (shapes_of given left) ↔ P) → IsTrue none ↔ P
twos_end P given least [] none short is so_far = ((λ e. so_far.0 (no_twos least)), (λ p. is))
twos_end P given least (x ∷ []) none short is so_far =
    ((λ e. absurd (no (sym is ∙ e))), (λ p. absurd (twos_odd least _ (so_far.1 p))))
  where
    no : (1 == 0) ≡ true → ⊥
    no e = cc
twos_end P given least (x ∷ y ∷ left) none short is so_far = absurd (omega (arith, short))
