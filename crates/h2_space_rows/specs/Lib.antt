pub mod Leaves
pub mod Needs
pub mod Passes
pub mod MapBlocks
pub mod Headers
pub mod Marred
