pub mod Places
pub mod Links
pub mod Reached
pub mod Reads
pub mod Lowered
pub mod Trims
pub use Rattle.account_check.specs.Verdicts
pub use Rattle.account_file.specs.Accounts
