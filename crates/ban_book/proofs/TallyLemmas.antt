-- A tally's ban is valid by the facts that it lists.
use Rattle.std.proofs.Common.{◌≡◌, ℕ, ◌+◌, ◌/◌, ◌<◌, Bool, true, false, List, [], ◌∷◌, length, Contains, refl, sym, subst, arith}
use Rattle.std.proofs.lemmas.List.Elements.{All-cons, All-nil}
use Rattle.circuits.specs.declared.port.Pair.{Pair}
use Rattle.circuits.specs.declared.port.PortKind.TheVariants.{Output}
use Rattle.net_core.specs.Sides.{Graphs}
use Rattle.net_core.specs.declared.graphs.Side.{Side}
use Rattle.net_core.specs.declared.graphs.Side.TheVariants.{First, Second}
use Rattle.account_core.specs.declared.step.Ban.{Ban}
use Rattle.claim_core.specs.declared.claims.Shape.{Shape}
use Rattle.account_core.specs.declared.step.Step.TheVariants as step
use Rattle.account_core.specs.declared.step.Tallied.{Tallied}
use Rattle.account_core.specs.declared.step.Tallied.TheVariants.{Support, Binate}
use Rattle.account_core.specs.Given.{Decided, given_of}
use Rattle.account_core.specs.Ports.{AreOrdered, IsKnown}
use Rattle.account_core.specs.Steps.{IsValidBan}
use Rattle.account_core.specs.Tallies.{other_side, port_on, shapes_of, AreBothOfEach, AreOfEach, HaveShapes, LackShapes, SayOf}
use Rattle.ban_book.specs.declared.tallies.Lists.{Lists}
use Rattle.ban_book.specs.Listed.{tally_of, AreLists, ListsOf, ListsOne}
use Rattle.ban_book.proofs.ListedLemmas.{both_count, one_count}

one_ordered : (pair : Pair) → AreOrdered (pair ∷ [])
one_ordered pair i j d less below = absurd (omega (arith, less, below))

first_of : (pair : Pair) → Contains (pair ∷ []) pair
first_of pair = (0, omega arith, refl)

say_any : (facts : List Decided) (bans : List Ban) (numbers : List ℕ) (holds : Bool) (side : Side) (output : ℕ) → SayOf (given_of facts []) numbers holds side output → SayOf (given_of facts bans) numbers holds side output
say_any facts bans numbers holds side output is = record { says = is.says; of_side = is.of_side; of_output = is.of_output }

other_twice : (side : Side) → other_side (other_side side) ≡ side
other_twice First = refl
other_twice Second = refl

-- of an output facts say that it is of a kind in some inputs, and of the other one that it isn't in others
by_lists : (graphs : Graphs) (facts : List Decided) (bans : List Ban) (pair : Pair) (side : Side) (kind : Tallied) (these those : List ℕ → List Shape → Type 0) (n m : ℕ) (have lack : List ℕ) → pair.kind ≡ Output → IsKnown graphs pair → (one : ListsOf these facts false side (port_on side pair) n have) → (other : ListsOf those facts true (other_side side) (port_on (other_side side) pair) m lack) → HaveShapes kind one.inputs (shapes_of (given_of facts []) have) → LackShapes kind other.inputs (shapes_of (given_of facts []) lack) → 0 < length one.inputs → 0 < length other.inputs → graphs.first.inputs < length one.inputs + length other.inputs → IsValidBan graphs (given_of facts bans) (record { pairs = pair ∷ []; step = step.Tally kind have lack })
by_lists graphs facts bans pair side kind these those n m have lack output known one other have_shapes lack_shapes some_one some_other many = record {
  known = All-cons (IsKnown graphs) pair [] known (All-nil (IsKnown graphs));
  ordered = one_ordered pair;
  names = (one.known, other.known);
  rule = record {
    side = side;
    pair = pair;
    having = one.inputs;
    lacking = other.inputs;
    paired = first_of pair;
    of_outputs = output;
    fail = say_any facts bans have false side (port_on side pair) one.say;
    hold = say_any facts bans lack true (other_side side) (port_on (other_side side) pair) other.say;
    have_shapes = have_shapes;
    lack_shapes = lack_shapes;
    having_ascends = one.ascends;
    lacking_ascends = other.ascends;
    some_have = some_one;
    some_lack = some_other;
    too_many = many;
  };
  shown = tt;
}

pub tally_valid : (graphs : Graphs) (facts : List Decided) (bans : List Ban) (pair : Pair) (side : Side) (holds : Bool) (lists : Lists) → pair.kind ≡ Output → IsKnown graphs pair → AreLists facts pair side holds lists → 0 < length lists.one → 1 < length lists.both → graphs.first.inputs < length lists.one + length lists.both / 2 → IsValidBan graphs (given_of facts bans) (tally_of pair holds lists)
tally_valid graphs facts bans pair side false lists output known are some_one some_both many =
    let ones = one_count facts false side (port_on side pair) are.bound lists.one are.one in
    let boths = both_count facts true (other_side side) (port_on (other_side side) pair) are.bound_both lists.both are.both in
    by_lists graphs facts bans pair side Support AreOfEach AreBothOfEach are.bound are.bound_both lists.one lists.both output known are.one are.both are.one.shapes are.both.shapes (omega (arith, ones, some_one)) (omega (arith, boths, some_both)) (omega (arith, ones, boths, many))
tally_valid graphs facts bans pair side true lists output known are some_one some_both many =
    let other = other_side side in
    let one = subst (λ (s : Side). ListsOne facts true s (port_on s pair) are.bound lists.one) (sym (other_twice side)) are.one in
    let ones = one_count facts true (other_side other) (port_on (other_side other) pair) are.bound lists.one one in
    let boths = both_count facts false other (port_on other pair) are.bound_both lists.both are.both in
    by_lists graphs facts bans pair other Binate AreBothOfEach AreOfEach are.bound_both are.bound lists.both lists.one output known are.both one are.both.shapes one.shapes (omega (arith, boths, some_both)) (omega (arith, ones, some_one)) (omega (arith, ones, boths, many))
