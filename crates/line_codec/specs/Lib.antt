pub mod LineBytes
pub use Rattle.text_core.specs.Extends
