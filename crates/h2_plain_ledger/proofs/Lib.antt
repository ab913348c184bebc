pub mod CodeLists
pub mod Members
pub mod Quiet
pub mod Joining
pub mod Applying
