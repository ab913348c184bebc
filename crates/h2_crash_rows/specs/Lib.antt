pub mod Cuts
pub mod Marks
pub mod Mounts
pub mod Plan
pub mod Formats
pub mod VolumeCuts
pub mod Landings
pub mod Pages
