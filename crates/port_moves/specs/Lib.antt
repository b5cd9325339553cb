pub mod Moved
pub mod Inverses
pub mod Restored
