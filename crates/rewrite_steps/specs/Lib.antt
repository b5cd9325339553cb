pub mod Rewriting
pub use Rattle.check_steps.specs.Judged
pub use Rattle.run_steps.specs.Commands
pub use Rattle.run_steps.specs.Steps
