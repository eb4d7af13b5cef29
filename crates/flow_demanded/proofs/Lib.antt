pub mod Demanded
pub mod Moved
pub mod Parts
pub mod Search
pub mod Unnamed
pub mod Whole
