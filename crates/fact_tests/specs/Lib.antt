pub mod Supports
pub mod Asking
pub mod Hunting
pub mod Kept
pub mod Books
pub mod Outputs
pub mod Exchanges
pub mod LocalExchanges
pub use Rattle.account_core.specs.Facts as DecidedFacts
pub use Rattle.sim_signature.specs.Supports as Reached
pub use Rattle.oracle_core.specs.Oracles
pub use Rattle.oracle_core.specs.Work
pub use Rattle.ask_core.specs.Answers
pub use Rattle.claim_core.specs.Claims
pub use Rattle.claim_core.specs.ClaimQueries
pub use Rattle.claim_core.specs.Facts
pub use Rattle.claim_core.specs.Queries
pub use Rattle.claim_core.specs.Rows
