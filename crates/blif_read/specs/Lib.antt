pub mod Keywords
pub mod Naming
pub mod Nets
pub mod Reading
pub mod Shown
