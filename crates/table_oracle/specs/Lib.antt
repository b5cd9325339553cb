pub mod Splits
pub mod Tables
pub use Rattle.account_core.specs.Facts
pub use Rattle.oracle_core.specs.Oracles
pub use Rattle.account_core.specs.Ports
pub use Rattle.oracle_core.specs.Work
pub use Rattle.ask_core.specs.Answers
pub use Rattle.claim_core.specs.Claims
