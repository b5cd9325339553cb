pub mod Packing
pub mod Marking
