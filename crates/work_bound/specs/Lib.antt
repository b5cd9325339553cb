pub use Rattle.account_core.specs.Ports
pub use Rattle.oracle_core.specs.Enough
pub use Rattle.oracle_core.specs.Work
pub use Rattle.query_core.specs.Ledgers
