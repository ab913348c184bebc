pub mod Places
pub mod PlaceLaws
pub mod Causes
pub mod Names
