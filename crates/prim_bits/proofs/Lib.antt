pub mod Exact
mod Examples
pub mod Lengths
pub mod ResultWidths
pub mod SignedResults
pub mod Taken
