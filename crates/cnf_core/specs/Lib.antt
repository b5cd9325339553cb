pub mod Charges
pub mod Clauses
pub mod Derivations
pub mod Stores
pub use Rattle.circuits.specs.Literals
