pub mod Scanning
pub mod Shown
pub mod Splitting
