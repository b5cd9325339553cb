pub mod Names
pub mod Marks
pub mod Trims
pub mod Numbered
pub use Rattle.account_core.specs.Facts
pub use Rattle.account_core.specs.Shown
pub use Rattle.account_core.specs.Steps
