pub mod MatchingLemmas
pub mod AskLemmas
pub mod StepLemmas
pub mod CompareLemmas
pub mod SearchLemmas
pub mod FreeLemmas
pub mod BackLemmas
