-- What pairs of an output and of one or two inputs carry claims of these to.
use Rattle.std.proofs.Common.{◌≡◌, ◌≢◌, ◌⊎◌, ℕ, zero, suc, ◌<◌, ◌≤◌, Bool, true, false, cond, List, [], ◌∷◌, All, Some, nat_lt, refl, sym, ap, subst, ◌∙◌, inl, inr, arith, eq-eqb}
use Rattle.std.specs.Prelude.{◌==◌, ◌&&◌, Contains, option_and_then, option_map}
use Rattle.std.proofs.lemmas.Bool.{and_from, cases_Bool, cases_lt, cond-false, cond-true, false≢true, lt-ltb, ltb-true, ne_eqb}
use Rattle.std.proofs.lemmas.List.Elements.{All-cons, All-nil}
use Rattle.circuits.specs.declared.port.Pair.{Pair}
use Rattle.circuits.specs.declared.port.PortKind.{PortKind}
use Rattle.circuits.specs.declared.port.PortKind.TheVariants.{Input, Output}
use Rattle.net_core.specs.Sides.{Graphs}
use Rattle.net_core.specs.declared.graphs.Side.TheVariants.{First, Second}
use Rattle.claim_core.specs.declared.claims.Claim.{Claim}
use Rattle.claim_core.specs.declared.claims.Shape.{Shape}
use Rattle.claim_core.specs.declared.claims.Shape.TheVariants.{Swap}
use Rattle.claim_core.specs.Claims.{IsClaim, IsPlaced}
use Rattle.claim_core.specs.Images.{claim_of_second, image_of, is_of, moved_one, moved_shape, moved_two, moved_value, one_input, pair_of, same_kind, two_inputs}
use Rattle.account_core.specs.Mismatches.{IsImage}
use Rattle.account_core.specs.Ports.{ports_in, AreOrdered, IsKnown, StandInOrder}
use Rattle.account_core.proofs.Matched.{pair_of-held}
use Rattle.account_core.proofs.OrderedPairs.{agree}
use Rattle.claim_core.proofs.ImageLemmas.{kind_same}
pub use Rattle.account_core.proofs.ImageLemmas.{is_placed as one_placed}

kinds_differ : Input ≡ Output → ⊥
kinds_differ e = cc

-- an input's pair comes before an output's, and before that of a later input
pub input_before : (input output : Pair) → input.kind ≡ Input → output.kind ≡ Output → StandInOrder input output
input_before input output one other = record {
  inputs_first = λ e. other;
  ascending = λ same. absurd (kinds_differ (sym one ∙ (same ∙ other)));
  apart = λ same. absurd (kinds_differ (sym one ∙ (same ∙ other)));
}

inputs_before : (one other : Pair) → one.kind ≡ Input → one.from < other.from → one.to ≢ other.to → StandInOrder one other
inputs_before one other kind less apart = record {
  inputs_first = λ e. absurd (kinds_differ (sym kind ∙ e));
  ascending = λ same. less;
  apart = λ same. apart;
}

pub two_ordered : (one other : Pair) → StandInOrder one other → AreOrdered (one ∷ other ∷ [])
two_ordered one other is zero zero d less below = absurd (omega (arith, less))
two_ordered one other is zero (suc zero) d less below = is
two_ordered one other is zero (suc (suc j)) d less below = absurd (omega (arith, below))
two_ordered one other is (suc i) zero d less below = absurd (omega (arith, less))
two_ordered one other is (suc i) (suc zero) d less below = absurd (omega (arith, less))
two_ordered one other is (suc i) (suc (suc j)) d less below = absurd (omega (arith, below))

-- a pair before two in order
ordered_cons : (pair one other : Pair) → StandInOrder pair one → StandInOrder pair other → AreOrdered (one ∷ other ∷ []) → AreOrdered (pair ∷ one ∷ other ∷ [])
ordered_cons pair one other first second rest zero zero d less below = absurd (omega (arith, less))
ordered_cons pair one other first second rest zero (suc zero) d less below = first
ordered_cons pair one other first second rest zero (suc (suc zero)) d less below = second
ordered_cons pair one other first second rest zero (suc (suc (suc j))) d less below = absurd (omega (arith, below))
ordered_cons pair one other first second rest (suc i) zero d less below = absurd (omega (arith, less))
ordered_cons pair one other first second rest (suc i) (suc j) d less below = rest i j d (omega (arith, less)) (omega (arith, below))

pub three_ordered : (one other output : Pair) → one.kind ≡ Input → other.kind ≡ Input → output.kind ≡ Output → one.from < other.from → one.to ≢ other.to → AreOrdered (one ∷ other ∷ output ∷ [])
three_ordered one other output one_kind other_kind output_kind less apart =
    ordered_cons one other output (inputs_before one other one_kind less apart) (input_before one output one_kind output_kind) (two_ordered other output (input_before other output other_kind output_kind))

pub two_known : (graphs : Graphs) (one other : Pair) → IsKnown graphs one → IsKnown graphs other → All (IsKnown graphs) (one ∷ other ∷ [])
two_known graphs one other first second = All-cons (IsKnown graphs) one (other ∷ []) first (All-cons (IsKnown graphs) other [] second (All-nil (IsKnown graphs)))

pub three_known : (graphs : Graphs) (one other output : Pair) → IsKnown graphs one → IsKnown graphs other → IsKnown graphs output → All (IsKnown graphs) (one ∷ other ∷ output ∷ [])
three_known graphs one other output first second third = All-cons (IsKnown graphs) one (other ∷ output ∷ []) first (two_known graphs other output second third)

-- the pair of a port, where it stands first, and where another one does
found_first : (kind : PortKind) (port : ℕ) (pair : Pair) (rest : List Pair) → is_of kind port pair ≡ true → pair_of (pair ∷ rest) kind port ≡ Some pair
found_first kind port pair rest is = cond-true (is_of kind port pair) (Some pair) (pair_of rest kind port) is

found_later : (kind : PortKind) (port : ℕ) (pair : Pair) (rest : List Pair) → is_of kind port pair ≡ false → pair_of (pair ∷ rest) kind port ≡ pair_of rest kind port
found_later kind port pair rest is = cond-false (is_of kind port pair) (Some pair) (pair_of rest kind port) is

input_own : (pair : Pair) → pair.kind ≡ Input → is_of Input pair.from pair ≡ true
input_own pair is = ap (λ k. same_kind k Input && (pair.from == pair.from)) is ∙ eq-eqb pair.from pair.from refl

output_own : (pair : Pair) → pair.kind ≡ Output → is_of Output pair.from pair ≡ true
output_own pair is = ap (λ k. same_kind k Output && (pair.from == pair.from)) is ∙ eq-eqb pair.from pair.from refl

input_no_output : (pair : Pair) (port : ℕ) → pair.kind ≡ Input → is_of Output port pair ≡ false
input_no_output pair port is = ap (λ k. same_kind k Output && (pair.from == port)) is

input_other : (pair : Pair) (port : ℕ) → pair.kind ≡ Input → pair.from ≢ port → is_of Input port pair ≡ false
input_other pair port is apart = ap (λ k. same_kind k Input && (pair.from == port)) is ∙ ne_eqb pair.from port apart

-- the pair of a port, where pairs are in order
own : (pair : Pair) (kind : PortKind) (port : ℕ) → pair.kind ≡ kind → pair.from ≡ port → is_of kind port pair ≡ true
own pair kind port kind_is from_is = and_from (same_kind pair.kind kind) (pair.from == port) (kind_same pair.kind kind kind_is) (eq-eqb pair.from port from_is)

-- a port that is of one of some pairs has a pair
pub some_pair : (pairs : List Pair) (kind : PortKind) (port : ℕ) (pair : Pair) → Contains pairs pair → is_of kind port pair ≡ true → (other : Pair) × (pair_of pairs kind port ≡ Some other)
some_pair [] kind port pair held is = absurd (omega (arith, held.1))
some_pair (one ∷ pairs) kind port pair held is =
    elim (cases_Bool (is_of kind port one)) [
      | inl yes' ↦ (one, found_first kind port one pairs yes')
      | inr no' ↦
          let found = by_place held no' (λ later. some_pair pairs kind port pair later is) in
          (found.0, found_later kind port one pairs no' ∙ found.1)
    ]
  where
    by_place : Contains (one ∷ pairs) pair → is_of kind port one ≡ false → (Contains pairs pair → (other : Pair) × (pair_of pairs kind port ≡ Some other)) → (other : Pair) × (pair_of pairs kind port ≡ Some other)
    by_place (zero, below, same) no' of_later = absurd (false≢true (sym no' ∙ (ap (is_of kind port) same ∙ is)))
    by_place (suc k, below, same) no' of_later = of_later (k, omega (arith, below), same)

pub pair_of-one : (pairs : List Pair) (pair : Pair) (kind : PortKind) (port : ℕ) → AreOrdered pairs → Contains pairs pair → pair.kind ≡ kind → pair.from ≡ port → pair_of pairs kind port ≡ Some pair
pair_of-one pairs pair kind port ordered held kind_is from_is =
    let found = some_pair pairs kind port pair held (own pair kind port kind_is from_is) in
    let is = pair_of-held pairs kind port found.0 found.1 in
    found.1 ∙ ap Some (agree pairs ordered found.0 pair is.0 held (is.1 ∙ sym kind_is) (inl (is.2 ∙ sym from_is)))

-- the image of a claim of one input, and of a claim of two, whose ports have these pairs
pub one_image : (pairs : List Pair) (input output : Pair) (k i : ℕ) (a : Bool) → pair_of pairs Output k ≡ Some output → pair_of pairs Input i ≡ Some input → image_of pairs (record { side = First; output = k; shape = one_input i a }) ≡ Some (claim_of_second output.to (one_input input.to (moved_value output.flip input a)))
one_image pairs input output k i false of_output of_input =
    ap (λ found. option_and_then (λ (o : Pair). option_map (claim_of_second o.to) (moved_shape pairs o.flip (one_input i false))) found) of_output
    ∙ ap (λ found. option_map (claim_of_second output.to) (option_map (moved_one output.flip false) found)) of_input
one_image pairs input output k i true of_output of_input =
    ap (λ found. option_and_then (λ (o : Pair). option_map (claim_of_second o.to) (moved_shape pairs o.flip (one_input i true))) found) of_output
    ∙ ap (λ found. option_map (claim_of_second output.to) (option_map (moved_one output.flip true) found)) of_input

two_image : (pairs : List Pair) (one other output : Pair) (k i j : ℕ) (a b : Bool) → pair_of pairs Output k ≡ Some output → pair_of pairs Input i ≡ Some one → pair_of pairs Input j ≡ Some other → image_of pairs (record { side = First; output = k; shape = Swap i j a b }) ≡ Some (claim_of_second output.to (two_inputs one.to (moved_value output.flip one a) other.to (moved_value output.flip other b)))
two_image pairs one other output k i j a b of_output of_one of_other =
    ap (λ found. option_and_then (λ (o : Pair). option_map (claim_of_second o.to) (moved_shape pairs o.flip (Swap i j a b))) found) of_output
    ∙ (ap (λ found. option_map (claim_of_second output.to) (option_and_then (λ (first : Pair). option_map (moved_two output.flip a b first) (pair_of pairs Input j)) found)) of_one
    ∙ ap (λ found. option_map (claim_of_second output.to) (option_map (moved_two output.flip a b one) found)) of_other)

pub input_image : (input output : Pair) (a : Bool) → input.kind ≡ Input → output.kind ≡ Output → image_of (input ∷ output ∷ []) (record { side = First; output = output.from; shape = one_input input.from a }) ≡ Some (claim_of_second output.to (one_input input.to (moved_value output.flip input a)))
input_image input output a one other =
    one_image (input ∷ output ∷ []) input output output.from input.from a
    (found_later Output output.from input (output ∷ []) (input_no_output input output.from one) ∙ found_first Output output.from output [] (output_own output other))
    (found_first Input input.from input (output ∷ []) (input_own input one))

pub inputs_image : (one other output : Pair) (a b : Bool) → one.kind ≡ Input → other.kind ≡ Input → output.kind ≡ Output → one.from < other.from → image_of (one ∷ other ∷ output ∷ []) (record { side = First; output = output.from; shape = Swap one.from other.from a b }) ≡ Some (claim_of_second output.to (two_inputs one.to (moved_value output.flip one a) other.to (moved_value output.flip other b)))
inputs_image one other output a b one_kind other_kind output_kind less =
    two_image (one ∷ other ∷ output ∷ []) one other output output.from one.from other.from a b
    (found_later Output output.from one (other ∷ output ∷ []) (input_no_output one output.from one_kind) ∙ (found_later Output output.from other (output ∷ []) (input_no_output other output.from other_kind) ∙ found_first Output output.from output [] (output_own output output_kind)))
    (found_first Input one.from one (other ∷ output ∷ []) (input_own one one_kind))
    (found_later Input other.from one (other ∷ output ∷ []) (input_other one other.from one_kind (λ e. omega (arith, e, less))) ∙ found_first Input other.from other (output ∷ []) (input_own other other_kind))

pub two_placed : (n i j : ℕ) (a b : Bool) → i < n → j < n → i ≢ j → IsPlaced n (two_inputs i a j b)
two_placed n i j a b one other apart = chosen (nat_lt i j) refl
  where
    strictly : j ≤ i → (j < i) ⊎ (i ≤ j) → j < i
    strictly more (inl less) = less
    strictly more (inr same) = absurd (apart (omega (arith, more, same)))

    after : nat_lt i j ≡ false → (i < j) ⊎ (j ≤ i) → j < i
    after e (inl less) = absurd (false≢true (sym e ∙ lt-ltb i j less))
    after e (inr more) = strictly more (cases_lt j i)

    chosen : (less : Bool) → nat_lt i j ≡ less → IsPlaced n (cond less (Swap i j a b) (Swap j i b a))
    chosen true e = (ltb-true i j e, other)
    chosen false e = (after e (cases_lt i j), one)

-- claims that are known to be these
pub is_image : (pairs : List Pair) (claim image given carried : Claim) → claim ≡ given → image ≡ carried → given.side ≡ First → image_of pairs given ≡ Some carried → IsImage pairs claim image
is_image pairs claim image given carried claim_is image_is side is =
    subst (λ (c : Claim). IsImage pairs c image) (sym claim_is) (subst (IsImage pairs given) (sym image_is) (side, is))

pub first_placed : (graphs : Graphs) (output : Pair) (shape : Shape) (claim : Claim) → claim ≡ record { side = First; output = output.from; shape = shape } → output.kind ≡ Output → IsKnown graphs output → IsPlaced graphs.first.inputs shape → IsClaim graphs claim
first_placed graphs output shape claim is kind known placed =
    subst (IsClaim graphs) (sym is) (record { output = subst (λ (k : PortKind). output.from < ports_in graphs.first k) kind known.from; placed = placed })

pub second_placed : (graphs : Graphs) (output : Pair) (shape : Shape) (claim : Claim) → claim ≡ record { side = Second; output = output.to; shape = shape } → output.kind ≡ Output → IsKnown graphs output → IsPlaced graphs.second.inputs shape → IsClaim graphs claim
second_placed graphs output shape claim is kind known placed =
    subst (IsClaim graphs) (sym is) (record { output = subst (λ (k : PortKind). output.to < ports_in graphs.second k) kind known.to; placed = placed })

pub input_from : (graphs : Graphs) (input : Pair) → input.kind ≡ Input → IsKnown graphs input → input.from < graphs.first.inputs
input_from graphs input kind known = subst (λ (k : PortKind). input.from < ports_in graphs.first k) kind known.from

pub input_to : (graphs : Graphs) (input : Pair) → input.kind ≡ Input → IsKnown graphs input → input.to < graphs.second.inputs
input_to graphs input kind known = subst (λ (k : PortKind). input.to < ports_in graphs.second k) kind known.to
