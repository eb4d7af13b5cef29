pub mod Building
pub mod Expanded
pub mod Opened
pub mod Ports
