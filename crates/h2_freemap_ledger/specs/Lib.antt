pub mod Space
pub mod Laws
pub mod SpaceLaws
