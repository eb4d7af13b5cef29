pub mod Flat
pub mod Moves
pub mod Parts
