pub mod Below
pub mod Many
pub mod Paths
pub mod Puts
pub mod Search
pub mod Sides
pub mod States
pub mod Tops
