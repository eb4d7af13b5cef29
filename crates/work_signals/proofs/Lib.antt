pub mod Fives
pub mod Given
pub mod Joining
pub mod Seen
pub mod Staying
