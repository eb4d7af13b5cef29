pub mod Behind
pub mod Changed
pub mod Left
pub mod Moves
pub mod Onto
pub mod Others
pub mod Shown
pub mod States
