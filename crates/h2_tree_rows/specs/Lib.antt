pub mod TreeUnderTest
