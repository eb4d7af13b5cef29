pub mod Settled
pub mod Taking
pub mod Waiting
