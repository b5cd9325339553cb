pub mod DerivationLaws
pub mod EffectLemmas
pub mod HintLemmas
pub mod LineLemmas
pub mod LiteralLemmas
pub mod StoreLemmas
