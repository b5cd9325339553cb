pub mod KnownLemmas
pub mod HalfLemmas
pub mod WholeLemmas
pub mod ExcludingLemmas
pub mod HintLemmas
pub mod SplitLemmas
