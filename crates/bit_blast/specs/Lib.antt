pub mod Adding
pub mod Counting
pub mod Gating
pub mod Latches
pub mod Names
pub mod Numbering
pub mod Products
pub mod Shifts
