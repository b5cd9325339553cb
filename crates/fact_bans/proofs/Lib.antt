pub mod AskingLemmas
pub mod CarryLemmas
pub mod ServeLemmas
pub mod FactLemmas
pub mod MakingLemmas
pub mod ReferLemmas
pub mod WiderLemmas
