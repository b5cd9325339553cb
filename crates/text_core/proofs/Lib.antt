pub mod EmptyTests
pub mod PieceLemmas
pub mod LineLemmas
pub mod WordLemmas
pub mod NumberLemmas
pub mod GroupLemmas
pub mod Extending
