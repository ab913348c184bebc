pub mod NewBlocks
pub mod NewVolume
pub mod VolumeFormat
pub mod MapLaws
pub mod VolumeLaws
pub mod NewVolumeLaws
pub mod NewLeafLaws
