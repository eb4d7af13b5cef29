pub mod Marks
pub mod Nets
pub mod Outputs
pub mod Ports
pub mod Tasks
pub mod Turns
