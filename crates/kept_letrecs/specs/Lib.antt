pub mod Laws
pub mod Resting
