pub mod SuperRoot
pub mod Listing
pub mod Mets
pub mod Meets
pub mod Faults
pub mod Others
pub mod Removal
pub mod Addition
