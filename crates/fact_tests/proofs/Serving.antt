-- Calls of an oracle, one after the other (`oracle_core`).
use Rattle.net_core.specs.Sides.{Graphs}
use Rattle.query_core.specs.Ledgers.{Ledgered}
use Rattle.oracle_core.specs.Oracles.{HasServed, Known}
use Rattle.oracle_core.proofs.ServeLemmas.{served_same}
pub use Rattle.oracle_core.proofs.ServeLemmas.{serves_err, serves_last, serves_memory, serves_ok, served_one, served_then}
use Rattle.fact_tests.specs.Outputs.{MayAsk}

-- nothing was asked yet
pub served_none : (graphs : Graphs) (known : Known) (ledger : Ledgered) → MayAsk graphs known ledger → HasServed known known ledger ledger
served_none graphs known ledger may = served_same known ledger may.facts may.suits
