pub mod Map
pub mod Header
pub mod HeaderLaws
pub mod Fault
pub mod Reading
pub mod FaultLaws
pub mod Newest
pub mod RootLaws
