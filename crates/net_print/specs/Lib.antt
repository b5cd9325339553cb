pub mod Rows
pub mod Deltas
pub mod Files
pub mod BlifLines
