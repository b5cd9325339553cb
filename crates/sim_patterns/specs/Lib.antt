pub mod Trials
pub use Rattle.account_core.specs.Ports
