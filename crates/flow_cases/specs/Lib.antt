pub mod Answered
pub mod Given
pub mod Heads
pub mod Moves
pub mod Ports
pub mod Rules
pub mod Taken
