pub mod Touching
pub mod Blocks
pub mod Cutting
pub mod Sizing
pub mod FileContents
pub mod Linking
pub mod Writing
