pub mod InfoLemmas
pub mod TellingLemmas
pub mod ResultLemmas
pub mod SearchLemmas
