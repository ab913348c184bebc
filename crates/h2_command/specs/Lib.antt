pub mod Commands
pub mod Replies
pub mod History
pub mod Lawful
