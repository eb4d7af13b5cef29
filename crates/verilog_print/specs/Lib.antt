pub mod Drivers
pub mod Parts
pub mod Roles
pub mod Scopes
