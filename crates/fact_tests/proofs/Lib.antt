mod AnswerLemmas
mod NumberLemmas
mod WorkLemmas
mod StructureLemmas
mod ReachLemmas
pub mod ConeLemmas
pub mod AskingLemmas
mod BookLemmas
mod MatchBits
mod Serving
mod ClaimFacts
pub mod RowLemmas
mod OneRow
mod AlikeLemmas
mod ExchangeLemmas
mod ClassLemmas
mod LocalLemmas
