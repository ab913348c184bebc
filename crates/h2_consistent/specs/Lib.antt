pub mod FileTree
pub mod Consistent
pub mod Handles
pub mod Example
