-- Claims of one input, and their images.
use Rattle.std.proofs.Common.{◌≡◌, ℕ, Bool, true, false, List, Some, sym, ap, subst, ◌∙◌}
use Rattle.std.specs.Prelude.{Contains, nat_lt, option_map, if◌then◌else◌}
use Rattle.circuits.specs.declared.port.Pair.{Pair}
use Rattle.circuits.specs.declared.port.PortKind.TheVariants.{Input, Output}
use Rattle.net_core.specs.declared.graphs.Side.{Side}
use Rattle.net_core.specs.declared.graphs.Side.TheVariants.{First, Second}
use Rattle.claim_core.specs.declared.claims.Claim.{Claim}
use Rattle.claim_core.specs.declared.claims.Shape.{Shape}
use Rattle.claim_core.specs.declared.claims.Shape.TheVariants.{Up, Down, Swap}
use Rattle.claim_core.specs.Images.{claim_of_second, image_of, moved_one, moved_shape, moved_two, moved_value, one_input, pair_of}
use Rattle.claim_core.proofs.ImageLemmas.{chained, mapped}
use Rattle.account_core.specs.Mismatches.{IsImage}
use Rattle.account_core.proofs.Matched.{pair_of-held}
use Rattle.ban_book.specs.Vectors.{HasOneInput}

two_are_two : (c : Bool) (i j k l : ℕ) (a b d e : Bool) → HasOneInput (if c then Swap i j a b else Swap k l d e) → ⊥
two_are_two false i j k l a b d e one = one
two_are_two true i j k l a b d e one = one

two_moved : (pairs : List Pair) (exchanged a b : Bool) (i j : ℕ) (moved : Shape)
    → moved_shape pairs exchanged (Swap i j a b) ≡ Some moved
    → HasOneInput moved
    → ⊥
two_moved pairs exchanged a b i j moved is one =
    let first = chained (λ first. option_map (moved_two exchanged a b first) (pair_of pairs Input j)) (pair_of pairs Input i) moved is in
    let second = mapped (moved_two exchanged a b first.0) (pair_of pairs Input j) moved first.2 in
    let x = first.0.to in
    let y = second.0.to in
    let v = moved_value exchanged first.0 a in
    let w = moved_value exchanged second.0 b in
    two_are_two (nat_lt x y) x y y x v w w v (subst HasOneInput (sym second.2) one)

-- a shape that is moved to one of one input has one
shape_back : (pairs : List Pair) (exchanged : Bool) (shape moved : Shape) → moved_shape pairs exchanged shape ≡ Some moved → HasOneInput moved → HasOneInput shape
shape_back pairs exchanged (Up i) moved is one = tt
shape_back pairs exchanged (Down i) moved is one = tt
shape_back pairs exchanged (Swap i j a b) moved is one = two_moved pairs exchanged a b i j moved is one

-- the claim of an image of one input is of one input
pub one_back : (pairs : List Pair) (claim image : Claim) → IsImage pairs claim image → HasOneInput image.shape → HasOneInput claim.shape
one_back pairs claim image is one =
    let found = chained (λ output. option_map (claim_of_second output.to) (moved_shape pairs output.flip claim.shape)) (pair_of pairs Output claim.output) image is.1 in
    let moved = mapped (claim_of_second found.0.to) (moved_shape pairs found.0.flip claim.shape) image found.2 in
    shape_back pairs found.0.flip claim.shape moved.0 moved.1 (subst (λ (c : Claim). HasOneInput c.shape) (sym moved.2) one)

-- A claim of one input and its image, by the pairs of the output and of the input.
pub record IsCarried (pairs : List Pair) (claim image : Claim) : Type 0 where
  pub output : Pair
  pub input : Pair
  pub value : Bool
  pub output_among : Contains pairs output
  pub output_kind : output.kind ≡ Output
  pub input_among : Contains pairs input
  pub input_kind : input.kind ≡ Input
  pub claim_is : claim ≡ record { side = First; output = output.from; shape = one_input input.from value }
  pub image_is : image ≡ record { side = Second; output = output.to; shape = one_input input.to (moved_value output.flip input value) }

value_carried : (pairs : List Pair) (k i : ℕ) (value : Bool) (output : Pair) (shape : Shape) (image : Claim) → pair_of pairs Output k ≡ Some output → option_map (moved_one output.flip value) (pair_of pairs Input i) ≡ Some shape → claim_of_second output.to shape ≡ image → IsCarried pairs (record { side = First; output = k; shape = one_input i value }) image
value_carried pairs k i value output shape image of_output moved is =
    let found = mapped (moved_one output.flip value) (pair_of pairs Input i) shape moved in
    let there = pair_of-held pairs Output k output of_output in
    let here = pair_of-held pairs Input i found.0 found.1 in
    record {
      output = output;
      input = found.0;
      value = value;
      output_among = there.0;
      output_kind = there.1;
      input_among = here.0;
      input_kind = here.1;
      claim_is =
          ap (λ (n : ℕ). record { side = First; output = n; shape = one_input i value }) (sym there.2)
          ∙ ap (λ (n : ℕ). record { side = First; output = output.from; shape = one_input n value }) (sym here.2);
      image_is = sym is ∙ ap (claim_of_second output.to) (sym found.2);
    }

shape_carried : (pairs : List Pair) (k : ℕ) (shape : Shape) (image : Claim) → HasOneInput shape → image_of pairs (record { side = First; output = k; shape = shape }) ≡ Some image → IsCarried pairs (record { side = First; output = k; shape = shape }) image
shape_carried pairs k (Up i) image one is =
    let found = chained (λ output. option_map (claim_of_second output.to) (moved_shape pairs output.flip (Up i))) (pair_of pairs Output k) image is in
    let moved = mapped (claim_of_second found.0.to) (moved_shape pairs found.0.flip (Up i)) image found.2 in
    value_carried pairs k i false found.0 moved.0 image found.1 moved.1 moved.2
shape_carried pairs k (Down i) image one is =
    let found = chained (λ output. option_map (claim_of_second output.to) (moved_shape pairs output.flip (Down i))) (pair_of pairs Output k) image is in
    let moved = mapped (claim_of_second found.0.to) (moved_shape pairs found.0.flip (Down i)) image found.2 in
    value_carried pairs k i true found.0 moved.0 image found.1 moved.1 moved.2
shape_carried pairs k (Swap i j a b) image one is = absurd one

pub carried_by : (pairs : List Pair) (claim image : Claim) → IsImage pairs claim image → HasOneInput claim.shape → IsCarried pairs claim image
carried_by pairs claim image is one =
    subst (λ (c : Claim). IsCarried pairs c image) (ap (λ (s : Side). record { side = s; output = claim.output; shape = claim.shape }) (sym is.0)) (shape_carried pairs claim.output claim.shape image one is.1)
