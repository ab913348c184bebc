pub mod Names
pub mod Finding
pub mod Placing
pub mod Changing
pub mod Others
pub mod Walking
pub mod Knowing
pub mod Listing
