pub mod Kept
pub mod PfssTopped
