pub mod Acts
pub mod Examples
pub mod Laws
pub mod Levels
pub mod Terms
