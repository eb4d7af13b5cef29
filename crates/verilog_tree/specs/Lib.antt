pub mod Marks
pub mod Sources
pub mod Syntax
