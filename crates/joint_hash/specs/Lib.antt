pub mod Trees
pub mod Merging
pub mod Chains
pub mod Made
pub mod Classes
pub use Rattle.claim_core.specs.Formulas
pub use Rattle.cnf_core.specs.Derivations
