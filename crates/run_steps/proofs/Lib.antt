pub mod AnswerLemmas
pub mod CheckLemmas
pub mod FindLemmas
pub mod FlatLemmas
pub mod FormLemmas
pub mod InfoLemmas
pub mod MakingLemmas
pub mod MatchLemmas
pub mod OutcomeLemmas
pub mod PairLemmas
mod PartLemmas
pub mod PrintedLemmas
pub mod TryingLemmas
pub mod WritingLemmas
