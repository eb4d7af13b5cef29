pub mod Constructing
pub mod Places
