pub mod Counts
pub mod Drawn
pub mod Shuffled
