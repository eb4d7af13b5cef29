pub mod Untold
pub mod Writers
