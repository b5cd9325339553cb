-- Facts that are asked for of an output.
use Rattle.std.specs.Prelude.{◌<◌, ℕ, Bool, true, false, List, length, map}
use Rattle.net_core.specs.Sides.{graph_of}
use Rattle.query_core.specs.Ledgers.{Ledgered}
use Rattle.claim_core.specs.declared.claims.Shape.{Shape}
use Rattle.account_core.specs.Facts.{AreFacts}
use Rattle.account_core.specs.Given.{decided_by}
use Rattle.account_core.specs.Tallies.{AreBothOfEach, AreOfEach}
use Rattle.oracle_core.specs.Oracles.{Known, Suits}
use Rattle.ban_book.specs.Listed.{ListsOf}
use Rattle.fact_bans.specs.declared.lists.FactRequest.{FactRequest}

-- shapes of both claims of each input, or of one
abbrev pub shaped_by : Bool → List ℕ → List Shape → Type 0
shaped_by true inputs shapes = AreBothOfEach inputs shapes
shaped_by false inputs shapes = AreOfEach inputs shapes

-- numbers of facts as a request asks for them, of inputs below a number
abbrev pub ListsRequested : Known → FactRequest → ℕ → List ℕ → Type 0
ListsRequested known request below numbers =
    ListsOf (shaped_by request.both) (map decided_by known.facts) request.holds request.side request.output below numbers

-- Facts of an input may be listed: the oracle may be asked, there is such an output and such an input, and the facts of
-- the inputs before it are listed.
pub record MayList (known : Known) (ledger : Ledgered) (request : FactRequest) (input : ℕ) (numbers : List ℕ) : Type 0 where
  pub lawful : AreFacts known.graphs known.facts
  pub suits : Suits known ledger
  pub output : request.output < length (graph_of known.graphs request.side).outputs
  pub within : input < (graph_of known.graphs request.side).inputs
  pub lists : ListsRequested known request input numbers
