pub mod Actions
pub mod Heights
pub mod Parts
pub mod Stacks
