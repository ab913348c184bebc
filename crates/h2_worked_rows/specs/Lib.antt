pub mod Forests
pub mod Refs
pub mod Trees
pub mod Views
