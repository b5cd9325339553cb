-- Counts of an output's inputs that don't fit its partner's (support and unateness, as in textbooks of logic synthesis;
-- a match keeps both: Katebi and Markov, DATE 2010).
use Rattle.std.specs.Prelude.{◌≡◌, ◌⊎◌, ℕ, ◌+◌, ◌<◌, Bool, true, false, List, [], ◌∷◌, length, map, All, AllPairs, Contains}
use Rattle.std.specs.List.{AllZip, flat_map}
use Rattle.circuits.specs.declared.port.Pair.{Pair}
use Rattle.circuits.specs.declared.port.PortKind.TheVariants.{Output}
use Rattle.net_core.specs.Sides.{Graphs}
use Rattle.net_core.specs.declared.graphs.Side.{Side}
use Rattle.net_core.specs.declared.graphs.Side.TheVariants.{First, Second}
use Rattle.claim_core.specs.declared.claims.Shape.{Shape}
use Rattle.claim_core.specs.declared.claims.Shape.TheVariants.{Up, Down}
use Rattle.account_core.specs.declared.ports.Port.{Port}
use Rattle.account_core.specs.declared.step.Tallied.{Tallied}
use Rattle.account_core.specs.declared.step.Tallied.TheVariants.{Support, Binate}
use Rattle.account_core.specs.Given.{Given, fact_at}

-- the circuit that this one is compared with
abbrev pub other_side : Side → Side
other_side First = Second
other_side Second = First

-- the number of the port that a pair has of a circuit
abbrev pub port_on : Side → Pair → ℕ
port_on First pair = pair.from
port_on Second pair = pair.to

-- a pair's port of a circuit
abbrev pub port_of : Side → Pair → Port
port_of side pair = record { side = side; kind = pair.kind; number = port_on side pair }

-- the shapes of facts
abbrev pub shapes_of : Given → List ℕ → List Shape
shapes_of given numbers = map (λ k. (fact_at given k).claim.shape) numbers

-- Facts of one output of a circuit, all of claims that hold, or all of claims that fail.
pub record SayOf (given : Given) (numbers : List ℕ) (holds : Bool) (side : Side) (output : ℕ) : Type 0 where
  pub says : All (λ k. (fact_at given k).holds ≡ holds) numbers
  pub of_side : All (λ k. (fact_at given k).claim.side ≡ side) numbers
  pub of_output : All (λ k. (fact_at given k).claim.output ≡ output) numbers

-- a shape for each input: it goes up or down
abbrev pub AreOfEach : List ℕ → List Shape → Type 0
AreOfEach inputs shapes = AllZip (λ i shape. (shape ≡ Up i) ⊎ (shape ≡ Down i)) inputs shapes

-- two shapes for each input: it goes up, and it goes down
abbrev pub AreBothOfEach : List ℕ → List Shape → Type 0
AreBothOfEach inputs shapes = shapes ≡ flat_map (λ i. Up i ∷ Down i ∷ []) inputs

-- An input is in an output's support where up or down fails, and outside it where both hold.
-- The output is binate in an input where up and down fail, and not where either holds.
abbrev pub HaveShapes : Tallied → List ℕ → List Shape → Type 0
HaveShapes Support inputs shapes = AreOfEach inputs shapes
HaveShapes Binate inputs shapes = AreBothOfEach inputs shapes

-- what has to hold of each input that an output lacks, outside its support or not binate
abbrev pub LackShapes : Tallied → List ℕ → List Shape → Type 0
LackShapes Support inputs shapes = AreBothOfEach inputs shapes
LackShapes Binate inputs shapes = AreOfEach inputs shapes

-- each number is greater than those before it
abbrev pub Ascend : List ℕ → Type 0
Ascend numbers = AllPairs (λ one other. one < other) numbers

-- Of two paired outputs one, on either side, has these inputs, and the other lacks those. There are more of both than a
-- circuit has inputs, so that some input that the one has goes to an input that the other lacks.
pub record IsTally (graphs : Graphs) (given : Given) (pairs : List Pair) (kind : Tallied) (have lack : List ℕ) : Type 0 where
  pub side : Side
  pub pair : Pair
  pub having : List ℕ
  pub lacking : List ℕ
  pub paired : Contains pairs pair
  pub of_outputs : pair.kind ≡ Output
  pub fail : SayOf given have false side (port_on side pair)
  pub hold : SayOf given lack true (other_side side) (port_on (other_side side) pair)
  pub have_shapes : HaveShapes kind having (shapes_of given have)
  pub lack_shapes : LackShapes kind lacking (shapes_of given lack)
  pub having_ascends : Ascend having
  pub lacking_ascends : Ascend lacking
  pub some_have : 0 < length having
  pub some_lack : 0 < length lacking
  pub too_many : graphs.first.inputs < length having + length lacking
