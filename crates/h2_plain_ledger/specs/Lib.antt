pub mod State
pub mod Buying
pub mod Steps
pub mod PlainLedger
