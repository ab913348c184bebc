pub mod Ledgers
pub mod Passes
pub mod Premises
pub mod Sound
pub mod Unwritten
pub mod Takes
