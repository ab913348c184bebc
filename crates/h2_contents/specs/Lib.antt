pub mod Payload
pub mod Bytes
pub mod ByteLaws
pub mod Windows
pub mod Pages
pub mod PageLaws
