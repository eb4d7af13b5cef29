mod Ports
pub mod Heads
pub mod Instances
