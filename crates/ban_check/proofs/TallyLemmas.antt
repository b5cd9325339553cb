-- What the tests of a tally come to.
use Rattle.std.proofs.Common.{◌≡◌, ℕ, ◌+◌, ◌<◌, ◌&&◌, ◌↔◌, Bool, true, false, List, [], ◌∷◌, length, get_or, Any, refl, sym, ap, subst, ◌∙◌, arith}
use Rattle.std.specs.Bool.{IsTrue}
use Rattle.std.proofs.lemmas.List.{length-map}
use Rattle.circuits.specs.declared.port.Pair.{Pair}
use Rattle.net_core.specs.Sides.{Graphs}
use Rattle.net_core.specs.declared.graphs.Side.{Side}
use Rattle.claim_core.specs.declared.claims.Claim.{Claim}
use Rattle.account_core.specs.declared.step.Tallied.{Tallied}
use Rattle.account_core.specs.declared.step.Tallied.TheVariants.{Support, Binate}
use Rattle.account_core.specs.Given.{Given, fact_at}
use Rattle.account_core.specs.Tallies.{other_side, port_on, shapes_of, AreBothOfEach, AreOfEach, IsTally, SayOf, HaveShapes, LackShapes, Ascend}
use Rattle.ban_check.specs.Counted.{ArePaired, AreTooMany, GoOverInputs, GoOverTwice, HaveTooMany}
use Rattle.ban_check.proofs.AscentLemmas.{all_ascend}
use Rattle.ban_check.proofs.BoolLemmas.{both_tests, same_test}
use Rattle.ban_check.proofs.CountLemmas.{inputs_count, twos_count}

-- The tests of a tally, of whose lists one begins with a fact of one claim, and the other with a fact of the other.
pub record IsTested (graphs : Graphs) (given : Given) (pairs : List Pair) (kind : Tallied) (have lack : List ℕ) (one other : Claim) : Type 0 where
  pub paired : Any (ArePaired one other) pairs
  pub fail : SayOf given have false one.side one.output
  pub hold : SayOf given lack true other.side other.output
  pub too_many : HaveTooMany graphs.first.inputs given kind have lack

shapes_count : (given : Given) (numbers : List ℕ) → length (shapes_of given numbers) ≡ length numbers
shapes_count given numbers = length-map numbers _

-- facts of a paired output
of_port : (given : Given) (numbers : List ℕ) (holds : Bool) (side other : Side) (output port : ℕ) → side ≡ other → output ≡ port → SayOf given numbers holds side output → SayOf given numbers holds other port
of_port given numbers holds side other output port sides ports say =
    subst (λ s. SayOf given numbers holds s port) sides (subst (SayOf given numbers holds side) ports say)

-- a tally by the inputs that are counted
tally_by : (graphs : Graphs) (given : Given) (pairs : List Pair) (kind : Tallied) (have lack : List ℕ) (one other : Claim) (having lacking : List ℕ) → IsTested graphs given pairs kind have lack one other
    → HaveShapes kind having (shapes_of given have) → LackShapes kind lacking (shapes_of given lack) → Ascend having → Ascend lacking → 0 < length having → 0 < length lacking
    → graphs.first.inputs < length having + length lacking → IsTally graphs given pairs kind have lack
tally_by graphs given pairs kind have lack one other having lacking t have_shapes lack_shapes having_ascends lacking_ascends some_having some_lacking too_many =
    let pair = t.paired.1 in
    let paired = t.paired.4 in
    record {
      side = one.side;
      pair = pair;
      having = having;
      lacking = lacking;
      paired = (t.paired.0, t.paired.2, t.paired.3);
      of_outputs = paired.of_outputs;
      fail = of_port given have false one.side one.side one.output (port_on one.side pair) refl (sym paired.one_output) t.fail;
      hold = of_port given lack true other.side (other_side one.side) other.output (port_on (other_side one.side) pair) paired.apart (sym paired.other_output ∙ ap (λ s. port_on s pair) paired.apart) t.hold;
      have_shapes = have_shapes;
      lack_shapes = lack_shapes;
      having_ascends = having_ascends;
      lacking_ascends = lacking_ascends;
      some_have = some_having;
      some_lack = some_lacking;
      too_many = too_many;
    }

pub tally_from : (graphs : Graphs) (given : Given) (pairs : List Pair) (kind : Tallied) (have lack : List ℕ) (one other : Claim) → 0 < length have → 0 < length lack → IsTested graphs given pairs kind have lack one other → IsTally graphs given pairs kind have lack
tally_from graphs given pairs Support have lack one other some_have some_lack t =
    let m = t.too_many in
    let each = inputs_count 0 (shapes_of given have) m.go_over in
    let twice = twos_count 0 (shapes_of given lack) m.go_over_twice in
    tally_by graphs given pairs Support have lack one other m.go_over.inputs m.go_over_twice.inputs t m.go_over.of_each m.go_over_twice.both_of_each m.go_over.ascend.ascend m.go_over_twice.ascend.ascend
    (omega (arith, each, shapes_count given have, some_have)) (omega (arith, twice, shapes_count given lack, some_lack))
    (omega (arith, each, twice, shapes_count given have, shapes_count given lack, m.too_many))
tally_from graphs given pairs Binate have lack one other some_have some_lack t =
    let m = t.too_many in
    let each = inputs_count 0 (shapes_of given lack) m.go_over in
    let twice = twos_count 0 (shapes_of given have) m.go_over_twice in
    tally_by graphs given pairs Binate have lack one other m.go_over_twice.inputs m.go_over.inputs t m.go_over_twice.both_of_each m.go_over.of_each m.go_over_twice.ascend.ascend m.go_over.ascend.ascend
    (omega (arith, twice, shapes_count given have, some_have)) (omega (arith, each, shapes_count given lack, some_lack))
    (omega (arith, each, twice, shapes_count given have, shapes_count given lack, m.too_many))

counted : (inputs : ℕ) (given : Given) (each twice having lacking : List ℕ) → AreOfEach having (shapes_of given each) → AreBothOfEach lacking (shapes_of given twice) → Ascend having → Ascend lacking → 0 < length having → 0 < length lacking
    → inputs < length having + length lacking → (0 < length each) × (0 < length twice) × AreTooMany inputs given each twice
counted inputs given each twice having lacking of_each both_of_each having_ascends lacking_ascends some_having some_lacking too_many =
    let one : GoOverInputs 0 (shapes_of given each) = record { inputs = having; of_each = of_each; ascend = all_ascend having having_ascends } in
    let two : GoOverTwice 0 (shapes_of given twice) = record { inputs = lacking; both_of_each = both_of_each; ascend = all_ascend lacking lacking_ascends } in
    let many = inputs_count 0 (shapes_of given each) one in
    let twins = twos_count 0 (shapes_of given twice) two in (
      omega (arith, many, shapes_count given each, some_having),
      omega (arith, twins, shapes_count given twice, some_lacking),
      record { go_over = one; go_over_twice = two; too_many = omega (arith, many, twins, shapes_count given each, shapes_count given twice, too_many) },
    )

-- a tally's lists have members, and are of more inputs than there are
pub tally_counts : (graphs : Graphs) (given : Given) (pairs : List Pair) (kind : Tallied) (have lack : List ℕ) → IsTally graphs given pairs kind have lack → (0 < length have) × (0 < length lack) × HaveTooMany graphs.first.inputs given kind have lack
tally_counts graphs given pairs Support have lack t =
    counted graphs.first.inputs given have lack t.having t.lacking t.have_shapes t.lack_shapes t.having_ascends t.lacking_ascends t.some_have t.some_lack t.too_many
tally_counts graphs given pairs Binate have lack t =
    let all = counted graphs.first.inputs given lack have t.lacking t.having t.lack_shapes t.have_shapes t.lacking_ascends t.having_ascends t.some_lack t.some_have (omega (arith, t.too_many)) in
    (all.1, all.0, all.2)

pub tally_to : (graphs : Graphs) (given : Given) (pairs : List Pair) (kind : Tallied) (a b : ℕ) (as_ bs : List ℕ) → IsTally graphs given pairs kind (a ∷ as_) (b ∷ bs) → IsTested graphs given pairs kind (a ∷ as_) (b ∷ bs) (fact_at given a).claim (fact_at given b).claim
tally_to graphs given pairs kind a b as_ bs t =
    let one = (fact_at given a).claim in
    let other = (fact_at given b).claim in
    let one_side : one.side ≡ t.side = t.fail.of_side 0 a (omega arith) in
    let one_output : one.output ≡ port_on t.side t.pair = t.fail.of_output 0 a (omega arith) in
    let there : other.side ≡ other_side t.side = t.hold.of_side 0 b (omega arith) in
    let other_output : other.output ≡ port_on (other_side t.side) t.pair = t.hold.of_output 0 b (omega arith) in
    record {
      paired = (
        t.paired.0,
        t.pair,
        t.paired.1,
        t.paired.2,
        record {
          of_outputs = t.of_outputs;
          apart = there ∙ ap other_side (sym one_side);
          one_output = ap (λ s. port_on s t.pair) one_side ∙ sym one_output;
          other_output = ap (λ s. port_on s t.pair) there ∙ sym other_output;
        },
      );
      fail = of_port given (a ∷ as_) false t.side one.side (port_on t.side t.pair) one.output (sym one_side) (sym one_output) t.fail;
      hold = of_port given (b ∷ bs) true (other_side t.side) other.side (port_on (other_side t.side) t.pair) other.output (sym there) (sym other_output) t.hold;
      too_many = (tally_counts graphs given pairs kind (a ∷ as_) (b ∷ bs) t).2;
    }

tally_parts : (graphs : Graphs) (given : Given) (pairs : List Pair) (kind : Tallied) (have lack : List ℕ) → 0 < length have → 0 < length lack → IsTally graphs given pairs kind have lack → IsTested graphs given pairs kind have lack (fact_at given (get_or have 0 0)).claim (fact_at given (get_or lack 0 0)).claim
tally_parts graphs given pairs kind [] lack some_have some_lack t = absurd (omega (arith, some_have))
tally_parts graphs given pairs kind (a ∷ as_) [] some_have some_lack t = absurd (omega (arith, some_lack))
tally_parts graphs given pairs kind (a ∷ as_) (b ∷ bs) some_have some_lack t = tally_to graphs given pairs kind a b as_ bs t

-- the tests of a tally, one after another
pub tally_tests : (graphs : Graphs) (given : Given) (pairs : List Pair) (kind : Tallied) (have lack : List ℕ) (one other : Claim) (paired fail hold many : Bool) → 0 < length have → 0 < length lack → one ≡ (fact_at given (get_or have 0 0)).claim → other ≡ (fact_at given (get_or lack 0 0)).claim → (IsTrue paired ↔ Any (ArePaired one other) pairs) → (IsTrue fail ↔ SayOf given have false one.side one.output) → (IsTrue hold ↔ SayOf given lack true other.side other.output) → (IsTrue many ↔ HaveTooMany graphs.first.inputs given kind have lack) → IsTrue (((paired && fail) && hold) && many) ↔ IsTally graphs given pairs kind have lack
tally_tests graphs given pairs kind have lack one other paired fail hold many some_have some_lack one_is other_is p f h m =
    same_test (((paired && fail) && hold) && many) (((Any (ArePaired one other) pairs × Fails) × Holds) × Many) (IsTally graphs given pairs kind have lack) to from (both_tests ((paired && fail) && hold) many ((Any (ArePaired one other) pairs × Fails) × Holds) Many (both_tests (paired && fail) hold (Any (ArePaired one other) pairs × Fails) Holds (both_tests paired fail (Any (ArePaired one other) pairs) Fails p f) h) m)
  where
    Fails : Type 0
    Fails = SayOf given have false one.side one.output

    Holds : Type 0
    Holds = SayOf given lack true other.side other.output

    Many : Type 0
    Many = HaveTooMany graphs.first.inputs given kind have lack

    to : ((Any (ArePaired one other) pairs × Fails) × Holds) × Many → IsTally graphs given pairs kind have lack
    to all = tally_from graphs given pairs kind have lack one other some_have some_lack (record { paired = all.0.0.0; fail = all.0.0.1; hold = all.0.1; too_many = all.1 })

    from : IsTally graphs given pairs kind have lack → ((Any (ArePaired one other) pairs × Fails) × Holds) × Many
    from t =
        let parts = tally_parts graphs given pairs kind have lack some_have some_lack t in
        let at = subst (λ o. IsTested graphs given pairs kind have lack o other) (sym one_is) (subst (λ o. IsTested graphs given pairs kind have lack (fact_at given (get_or have 0 0)).claim o) (sym other_is) parts) in
        (((at.paired, at.fail), at.hold), at.too_many)
