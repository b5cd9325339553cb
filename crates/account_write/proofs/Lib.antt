pub mod TakenLemmas
pub mod LogLemmas
pub mod PairLemmas
pub mod MatchLemmas
pub mod RefusalLemmas
pub mod LineLemmas
