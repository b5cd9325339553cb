-- What an account concludes in, and what is wrong with a conclusion (this project's format).
use Rattle.std.specs.Prelude.{◌≡◌, ℕ, ◌+◌, Bool, List, [], length, map, take, drop, All, Option}
use Rattle.circuits.specs.declared.port.Pair.{Pair}
use Rattle.circuits.specs.declared.port.PortKind.{PortKind}
use Rattle.circuits.specs.declared.port.PortKind.TheVariants.{Input, Output}
use Rattle.circuits.specs.Bijections.{IsSignedBijection}
use Rattle.circuits.specs.Literals.{EachAt}
use Rattle.circuits.specs.Netlists.{Net}
use Rattle.net_core.specs.Sides.{Graphs}
use Rattle.net_core.specs.declared.matching.Matching.{Matching}
use Rattle.account_core.specs.declared.conclusion.Conclusion.{Conclusion}
use Rattle.account_core.specs.declared.conclusion.Conclusion.TheVariants as conclusion
use Rattle.account_core.specs.Ports.{HaveAsMany, IsKnown}
use Rattle.account_core.specs.Given.{Given, ban_at}
use Rattle.account_check.specs.declared.reject.Reject.{Reject}
use Rattle.account_check.specs.declared.reject.Reject.TheVariants as reject
use Rattle.account_check.specs.Drops.{Dropped, IsBanKept}
use Rattle.account_check.specs.Tests.{Passed, Unless}

-- pair k is of port k of a kind
abbrev pub AreOfKind : PortKind → List Pair → Type 0
AreOfKind kind pairs = EachAt (λ k pair. (pair.kind ≡ kind) × (pair.from ≡ k)) pairs

-- There is a pair for each input of a circuit, in order, and then one for each output, in order.
pub record AreInOrder (net : Net) (pairs : List Pair) : Type 0 where
  pub count : length pairs ≡ net.inputs + length net.outputs
  pub inputs : AreOfKind Input (take net.inputs pairs)
  pub outputs : AreOfKind Output (drop net.inputs pairs)

-- where a pair's first port goes
abbrev pub entry_of : Pair → ℕ × Bool
entry_of pair = (pair.to, pair.flip)

-- the matching of pairs, of which the first n are of inputs
abbrev pub matching_of : ℕ → List Pair → Matching
matching_of n pairs = record {
  inputs = map entry_of (take n pairs);
  outputs = map entry_of (drop n pairs);
}

-- Each port of the first circuit has a pair, in order, and no two inputs and no two outputs go to one port.
pub record AreWhole (graphs : Graphs) (pairs : List Pair) : Type 0 where
  pub order : AreInOrder graphs.first pairs
  pub inputs : IsSignedBijection graphs.first.inputs (matching_of graphs.first.inputs pairs).inputs
  pub outputs : IsSignedBijection (length graphs.first.outputs) (matching_of graphs.first.inputs pairs).outputs

-- the test that stands before each but those of the header, of the end and of the conclusion that the numbers of ports
-- differ
abbrev pub PortsTest : Graphs → (Option Reject → Type 0) → Option Reject → Type 0
PortsTest graphs Rest fault = Unless (HaveAsMany graphs.first graphs.second) reject.Conclusion Rest fault

-- the test of the conclusion that they differ
abbrev pub OtherPortsTest : Graphs → Option Reject → Type 0
OtherPortsTest graphs fault = Unless (HaveAsMany graphs.first graphs.second → ⊥) reject.Conclusion Passed fault

-- the tests of a match's pairs
abbrev pub PairTests : Graphs → List Pair → Option Reject → Type 0
PairTests graphs pairs fault =
    Unless (All (IsKnown graphs) pairs) reject.UnknownId (Unless (AreWhole graphs pairs) reject.Conclusion Passed) fault

-- the tests of a ban without pairs that shows that there is no match
abbrev pub EmptyBanTests : Given → Dropped → ℕ → Option Reject → Type 0
EmptyBanTests given dropped ban fault =
    Unless (IsBanKept given dropped ban) reject.UnknownId (Unless (ban_at given ban ≡ []) reject.Conclusion Passed) fault

-- the test of a drop: what it names was given and wasn't dropped
abbrev pub DropTest : Type 0 → Option Reject → Type 0
DropTest IsKept fault = Unless IsKept reject.UnknownId Passed fault

-- the tests of a conclusion
abbrev pub ConclusionTests : Graphs → Given → Dropped → Conclusion → Option Reject → Type 0
ConclusionTests graphs given dropped conclusion.NonePorts fault = OtherPortsTest graphs fault
ConclusionTests graphs given dropped (conclusion.NoneBan ban) fault =
    PortsTest graphs (EmptyBanTests given dropped ban) fault
ConclusionTests graphs given dropped (conclusion.Match pairs) fault = PortsTest graphs (PairTests graphs pairs) fault
