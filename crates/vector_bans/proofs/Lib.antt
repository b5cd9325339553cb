pub mod ShownLemmas
pub mod DefiniteLemmas
pub mod DifferLemmas
pub mod ForesightLemmas
pub mod ResortLemmas
