pub mod Bare
pub mod Front
pub mod Joins
pub mod Kept
pub mod Places
pub mod QuietRenamed
pub mod Resting
pub mod Sides
