pub mod EqualCircuits
pub mod Inverted
pub mod MovedLiterals
pub mod MovedMatch
pub mod Orders
