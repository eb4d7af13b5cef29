pub mod Arguments
pub mod Heads
