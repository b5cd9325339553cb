pub mod Blocks
pub mod Changes
pub mod Signatures
pub mod Sightings
pub mod Simulations
pub mod Supports
