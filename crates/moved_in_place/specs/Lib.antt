pub mod Joined
pub mod Laws
pub mod Moves
pub mod Swapped
