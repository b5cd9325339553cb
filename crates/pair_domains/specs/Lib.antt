pub mod Trails
pub mod Numbers
pub mod Packed
pub mod Kept
pub use Rattle.account_core.specs.Ports
pub use Rattle.account_core.specs.Tallies
pub use Rattle.account_core.specs.Assigned
