pub mod Commands
pub mod Flags
pub mod Form
pub mod Parsing
pub mod Splitting
