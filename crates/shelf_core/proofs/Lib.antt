pub mod Files
pub mod Pieces
pub mod Failures
pub mod FaultLemmas
