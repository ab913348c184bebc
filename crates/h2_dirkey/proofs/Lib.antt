pub mod MarkLemmas
pub mod BlockLemmas
pub mod PickLemmas
