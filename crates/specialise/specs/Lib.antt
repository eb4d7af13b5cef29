pub mod Calls
pub mod Closed
pub mod Seeds
pub mod Special
