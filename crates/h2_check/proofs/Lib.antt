pub mod TableLemmas
pub mod Slicing
