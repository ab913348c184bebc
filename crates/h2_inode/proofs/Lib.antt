pub mod HeadLemmas
pub mod SetLemmas
pub mod HeldRefs
pub mod FieldLemmas
pub mod Arrangements
pub mod Judged
