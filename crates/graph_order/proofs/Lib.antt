pub mod Ends
pub mod Exclusion
pub mod Lists
pub mod Loops
pub mod Searching
pub mod Turning
