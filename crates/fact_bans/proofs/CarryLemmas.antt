-- Pairs of an output and of one or two inputs carry claims of these.
use Rattle.std.proofs.Common.{◌≡◌, ◌≢◌, ◌<◌, Bool, [], ◌∷◌, refl}
use Rattle.circuits.specs.declared.port.Pair.{Pair}
use Rattle.circuits.specs.declared.port.PortKind.TheVariants.{Input, Output}
use Rattle.net_core.specs.Sides.{Graphs}
use Rattle.net_core.specs.declared.graphs.Side.TheVariants.{First, Second}
use Rattle.claim_core.specs.declared.claims.Shape.TheVariants.{Swap}
use Rattle.claim_core.specs.Images.{moved_value, one_input, two_inputs}
use Rattle.ban_book.specs.declared.mismatched.Carried.{Carried}
use Rattle.ban_book.proofs.MismatchLemmas.{first_placed, input_before, input_from, input_image, input_to, inputs_image, is_image, one_placed, second_placed, three_known, three_ordered, two_known, two_ordered, two_placed}
use Rattle.fact_bans.specs.declared.exchanges.SwapPairs.{SwapPairs}
use Rattle.fact_bans.specs.Carrying.{AreSwapPairs, Carry, IsPairOf, all_of}

pub carry_one : (graphs : Graphs) (input output : Pair) (value : Bool) (carried : Carried) → IsPairOf graphs Input input → IsPairOf graphs Output output → carried.claim ≡ record { side = First; output = output.from; shape = one_input input.from value } → carried.image ≡ record { side = Second; output = output.to; shape = one_input input.to (moved_value output.flip input value) } → Carry graphs (input ∷ output ∷ []) carried
carry_one graphs input output value carried one other claim_is image_is = record {
  known = two_known graphs input output one.known other.known;
  ordered = two_ordered input output (input_before input output one.kind_is other.kind_is);
  image = is_image (input ∷ output ∷ []) _ _ _ _ claim_is image_is refl (input_image input output value one.kind_is other.kind_is);
  claim_placed = first_placed graphs output _ _ claim_is other.kind_is other.known (one_placed _ _ _ (input_from graphs input one.kind_is one.known));
  image_placed = second_placed graphs output _ _ image_is other.kind_is other.known (one_placed _ _ _ (input_to graphs input one.kind_is one.known));
}

pub carry_two : (graphs : Graphs) (pairs : SwapPairs) (a b : Bool) (carried : Carried) → AreSwapPairs graphs pairs → pairs.one.from < pairs.other.from → pairs.one.to ≢ pairs.other.to → carried.claim ≡ record { side = First; output = pairs.output.from; shape = Swap pairs.one.from pairs.other.from a b } → carried.image ≡ record { side = Second; output = pairs.output.to; shape = two_inputs pairs.one.to (moved_value pairs.output.flip pairs.one a) pairs.other.to (moved_value pairs.output.flip pairs.other b) } → Carry graphs (all_of pairs) carried
carry_two graphs pairs a b carried are before apart claim_is image_is = record {
  known = three_known graphs pairs.one pairs.other pairs.output are.one.known are.other.known are.output.known;
  ordered = three_ordered pairs.one pairs.other pairs.output are.one.kind_is are.other.kind_is are.output.kind_is before apart;
  image = is_image (all_of pairs) _ _ _ _ claim_is image_is refl (inputs_image pairs.one pairs.other pairs.output a b are.one.kind_is are.other.kind_is are.output.kind_is before);
  claim_placed = first_placed graphs pairs.output _ _ claim_is are.output.kind_is are.output.known (before, input_from graphs pairs.other are.other.kind_is are.other.known);
  image_placed = second_placed graphs pairs.output _ _ image_is are.output.kind_is are.output.known (two_placed _ _ _ _ _ (input_to graphs pairs.one are.one.kind_is are.one.known) (input_to graphs pairs.other are.other.kind_is are.other.known) apart);
}
