pub mod Binders
pub mod Names
pub mod Places
