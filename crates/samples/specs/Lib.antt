pub mod Samples
pub use Rattle.net_core.specs.Graph
pub use Rattle.circuits.specs.Netlists
