mod Counted
mod Declared
pub mod Falls
mod Fields
mod Heads
pub mod Options
mod Patterns
pub mod Scoped
pub mod Spines
mod Truths
pub mod Typed
mod Unnamed
mod Variables
pub mod Ways
