pub mod Growing
pub mod Names
pub mod Drawing
pub mod Shuffles
pub mod Mixing
pub mod Pairs
