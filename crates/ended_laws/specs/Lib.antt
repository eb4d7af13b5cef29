pub mod Circuits
pub mod Laws
pub mod Values
