pub mod Below
pub mod Grounds
pub mod Parts
