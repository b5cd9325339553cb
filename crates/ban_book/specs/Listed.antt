-- Facts of an output's inputs, in the order of the inputs (support and unateness, as in textbooks of logic synthesis).
use Rattle.std.specs.Prelude.{◌<◌, ℕ, Bool, true, false, not, List, [], ◌∷◌, All}
use Rattle.circuits.specs.declared.port.Pair.{Pair}
use Rattle.net_core.specs.declared.graphs.Side.{Side}
use Rattle.claim_core.specs.declared.claims.Shape.{Shape}
use Rattle.account_core.specs.declared.step.Ban.{Ban}
use Rattle.account_core.specs.declared.step.Step.{Step}
use Rattle.account_core.specs.declared.step.Step.TheVariants as step
use Rattle.account_core.specs.declared.step.Tallied.TheVariants.{Support, Binate}
use Rattle.account_core.specs.Given.{Decided, given_of, IsFactGiven}
use Rattle.account_core.specs.Tallies.{other_side, port_on, shapes_of, AreBothOfEach, AreOfEach, Ascend, SayOf}
use Rattle.ban_book.specs.declared.tallies.Lists.{Lists}

-- The facts with these numbers are of claims at an output that hold (or fail), whose shapes are those of some inputs,
-- in ascending order.
pub record ListsOf (shaped : List ℕ → List Shape → Type 0) (facts : List Decided) (holds : Bool) (side : Side)
    (output below : ℕ) (numbers : List ℕ) : Type 0 where
  pub inputs : List ℕ
  pub ascends : Ascend inputs
  pub less : All (λ i. i < below) inputs
  pub shapes : shaped inputs (shapes_of (given_of facts []) numbers)
  pub known : All (IsFactGiven (given_of facts [])) numbers
  pub say : SayOf (given_of facts []) numbers holds side output

-- one claim of each input
abbrev pub ListsOne : List Decided → Bool → Side → ℕ → ℕ → List ℕ → Type 0
ListsOne facts holds side output below numbers = ListsOf AreOfEach facts holds side output below numbers

-- both claims of each input
abbrev pub ListsBoth : List Decided → Bool → Side → ℕ → ℕ → List ℕ → Type 0
ListsBoth facts holds side output below numbers = ListsOf AreBothOfEach facts holds side output below numbers

-- Of two paired outputs: facts of one claim an input at the output of one side, and facts of both claims an input at
-- the other output. The first ones hold where the others fail.
pub record AreLists (facts : List Decided) (pair : Pair) (side : Side) (holds : Bool) (lists : Lists) : Type 0 where
  pub bound : ℕ
  pub bound_both : ℕ
  pub one : ListsOne facts holds side (port_on side pair) bound lists.one
  pub both : ListsBoth facts (not holds) (other_side side) (port_on (other_side side) pair) bound_both lists.both

-- a claim of an input that holds says that the output isn't binate in it, and one that fails that the output depends on
-- it
abbrev pub tally_step : Bool → List ℕ → List ℕ → Step
tally_step true one both = step.Tally Binate both one
tally_step false one both = step.Tally Support one both

-- the ban of two outputs' pair, whose inputs of a kind don't fit in number
abbrev pub tally_of : Pair → Bool → Lists → Ban
tally_of pair holds lists = record { pairs = pair ∷ []; step = tally_step holds lists.one lists.both }
