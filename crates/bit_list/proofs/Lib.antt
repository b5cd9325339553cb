mod Words
pub mod MarkLemmas
