pub mod EntryLemmas
pub mod ListLemmas
pub mod ReadLemmas
pub mod StepLemmas
