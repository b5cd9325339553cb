pub mod OneFault
pub mod StopLemmas
