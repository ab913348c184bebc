pub mod Blocks
pub mod Topped
