-- What `info` reports of a circuit, and what a budget is spent on.
use Rattle.std.specs.Prelude.{◌≡◌, ℕ, ◌+◌, ◌<◌, true, List}
use Rattle.circuits.specs.Circuits.{Circuit}
use Rattle.circuits.specs.Levels.{IsOrderOf}
use Rattle.circuits.specs.Netlists.{Net}
use Rattle.net_core.specs.Sides.{Graphs}
use Rattle.net_file.specs.declared.named.Named.{Named}
use Rattle.query_core.specs.Ledgers.{Ledgered, learned_in, lines_in}
use Rattle.oracle_core.specs.Work.{IsWorkOfClaimsAndMatches}
use Rattle.oracle_core.specs.Enough.{enough}
use Rattle.claim_core.specs.declared.info.OutputInfo.{OutputInfo}
use Rattle.port_report.specs.Infos.{info_text}
use Rattle.claim_core.specs.Rows.{AreRowsOf}

-- The text says of each output of the circuit what is true of what it computes, with the numbers of its ports and of
-- the gates of its graph, and these names of its ports.
pub record IsInfoText (circuit : Circuit) (named : Named) (text : List ℕ) : Type 0 where
  pub numbered : IsOrderOf circuit named.graph
  pub rows : List OutputInfo
  pub right : AreRowsOf circuit rows
  pub same : text ≡ info_text named rows

-- a circuit against itself
abbrev pub with_itself : Net → Graphs
with_itself graph = record { first = graph; second = graph }

-- The budget was spent on claims and matches of two graphs: as many lines were learned, and one more, which stands
-- there too, was refused. It wasn't enough for all that can be asked of them.
pub record IsSpentOf (graphs : Graphs) (budget : ℕ) (ledger : Ledgered) : Type 0 where
  pub budget_is : ledger.budget ≡ budget
  pub learned : learned_in ledger ≡ budget
  pub made : lines_in ledger ≡ budget + 1
  pub refused : ledger.spent ≡ true
  pub work : IsWorkOfClaimsAndMatches graphs ledger
  pub below : budget < enough graphs
