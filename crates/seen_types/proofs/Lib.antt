pub mod EachItem
pub mod Matched
pub mod NoSums
pub mod PutClosed
pub mod Staying
