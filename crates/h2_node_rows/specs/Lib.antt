pub mod LeafUnderTest
pub mod PfsUnderTest
pub mod SuperRootLaws
pub mod VolumeUnderTest
