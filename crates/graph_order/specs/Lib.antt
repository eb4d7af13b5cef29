pub mod Orders
pub mod References
pub mod Searches
