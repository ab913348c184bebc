pub mod DirectoryUnderTest
