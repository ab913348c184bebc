pub mod Blocks
pub mod Steps
pub mod Shown
pub mod Lists
pub mod Joining
pub mod Taking
