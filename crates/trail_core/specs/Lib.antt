pub mod Trails
pub mod Places
pub use Rattle.cnf_core.specs.Clauses
pub use Rattle.cnf_core.specs.Derivations
