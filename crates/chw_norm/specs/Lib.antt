pub mod Bounds
pub mod GoingOn
pub mod Laws
pub mod Rules
pub mod Running
pub mod Searches
pub mod Underway
