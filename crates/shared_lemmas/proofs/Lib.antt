pub mod FormulaLemmas
pub mod SharedLaws
pub mod AnswerLemmas
pub mod StructuralLemmas
pub mod PaidLemmas
pub mod PartLemmas
pub mod PlaceLemmas
