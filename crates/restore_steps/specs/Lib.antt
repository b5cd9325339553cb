pub mod Restoring
pub use Rattle.check_steps.specs.Lines
pub use Rattle.print_laws.specs.Printable
pub use Rattle.run_steps.specs.Commands
pub use Rattle.run_steps.specs.Steps
