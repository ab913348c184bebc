pub mod Area
pub mod Adjacent
pub mod Fields
pub mod Padding
