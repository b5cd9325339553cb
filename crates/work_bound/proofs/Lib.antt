pub mod Radices
pub mod ClaimNumbers
pub mod MatchNumbers
pub mod QueryNumbers
pub mod EntryLemmas
pub mod WorkLemmas
pub mod NumberLemmas
pub mod TensLemmas
