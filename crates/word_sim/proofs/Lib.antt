pub mod DigitLemmas
pub mod DualRail
pub mod Fillings
pub mod Lanes
pub mod Rows
