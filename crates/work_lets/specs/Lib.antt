pub mod Closings
pub mod Inlined
pub mod Kept
pub mod Rules
pub mod Searching
