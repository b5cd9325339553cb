pub mod Printable
pub mod Ordered
pub mod PrintedCircuits
