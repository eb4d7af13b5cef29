pub mod Laws
pub mod Opened
pub mod Parts
pub mod Places
pub mod Stored
