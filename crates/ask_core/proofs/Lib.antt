pub mod AskLemmas
pub mod BoundLemmas
pub mod RenameLemmas
pub mod LineLemmas
pub mod BaseLemmas
pub mod DenseLemmas
pub mod FullLemmas
