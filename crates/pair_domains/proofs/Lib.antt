pub mod NumberLemmas
pub mod EntryLemmas
pub mod TableLemmas
pub mod PackedLemmas
pub mod KeptLemmas
