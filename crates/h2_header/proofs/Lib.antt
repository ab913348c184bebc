pub mod Block
pub mod Numbers
pub mod Pieces
pub mod Found
