pub mod SearchLaws
pub mod OrderLaws
pub mod ExpandLaws
pub mod ConeLemmas
pub mod ValueLemmas
