pub mod Codes
pub mod Reading
pub mod Rules
pub mod Shown
pub mod Slots
pub mod Sources
