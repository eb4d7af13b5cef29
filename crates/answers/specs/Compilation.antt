pub mod Compiling
pub mod Laws
pub mod SingleBits
