pub mod Counting
pub mod Taken
pub mod Needs
pub mod SegmentCodes
pub mod Changes
pub mod Pinned
pub mod Fresh
pub mod Placed
