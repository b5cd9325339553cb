pub mod Columns
pub mod Rails
pub mod ThreeValues
