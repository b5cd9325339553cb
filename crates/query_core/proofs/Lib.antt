pub mod VariableLemmas
pub mod ReachingLemmas
pub mod ShapeLemmas
pub mod ClaimClauseLemmas
pub mod ChargedLemmas
pub mod LedgerLemmas
pub mod ChargingLemmas
pub mod ConeIdLemmas
