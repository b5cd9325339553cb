pub mod TrailLemmas
pub mod CutLemmas
pub mod BackLemmas
pub mod ValueLemmas
