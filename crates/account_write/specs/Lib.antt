pub mod Records
pub use Rattle.account_check.specs.Verdicts
pub use Rattle.account_core.specs.Facts
pub use Rattle.account_core.specs.Shown
pub use Rattle.account_core.specs.Steps
pub use Rattle.account_file.specs.Spelling
