pub mod Conversions
pub mod AccountDues
pub mod Reading
pub mod Tables
pub mod Writing
pub use Rattle.account_file.specs.Accounts
pub use Rattle.refusal_core.specs.Names
