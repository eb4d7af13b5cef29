pub mod Arguments
pub mod Coming
pub mod Kept
pub mod Laying
pub mod Loops
pub mod Told
