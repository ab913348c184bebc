pub mod Parts
pub mod Leaves
pub mod Nodes
pub mod Blocks
pub mod BlockReads
pub mod Filling
