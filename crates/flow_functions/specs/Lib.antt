pub mod AtFirst
pub mod Moves
pub mod Rules
