pub mod Globals
pub mod Literals
pub mod Twices
pub mod Unknowns
pub mod Words
