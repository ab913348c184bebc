pub mod FileUnderTest
