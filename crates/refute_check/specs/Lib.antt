pub mod Values
pub mod Refutations
pub use Rattle.cnf_core.specs.Clauses
pub use Rattle.cnf_core.specs.Derivations
