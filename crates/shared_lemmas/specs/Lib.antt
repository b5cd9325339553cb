pub mod Shared
pub use Rattle.ask_core.specs.Answers
pub use Rattle.claim_core.specs.Queries
pub use Rattle.claim_core.specs.Formulas
pub use Rattle.query_core.specs.Ledgers
pub mod Parts
pub use Rattle.cnf_core.specs.Derivations
pub use Rattle.cnf_core.specs.Clauses
