pub mod Name
pub mod NameLaws
pub mod PfsName
pub mod Key
pub mod KeyLaws
pub mod Marks
pub mod Block
pub mod BlockLaws
