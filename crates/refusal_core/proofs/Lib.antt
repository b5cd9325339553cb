pub mod KeptLemmas
pub mod NumberLemmas
pub mod NumberedLemmas
pub mod MarkLemmas
pub mod NeededLemmas
pub mod ValidLemmas
pub mod TrimLemmas
