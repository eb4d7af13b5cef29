pub mod Deciding
pub mod Lists
pub mod Powers
mod Rows
