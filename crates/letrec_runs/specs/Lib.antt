pub mod Runs
pub mod Rush
pub mod Search
pub mod Sides
pub mod Traced
