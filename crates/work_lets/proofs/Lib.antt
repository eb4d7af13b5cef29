pub mod Closed
pub mod Inlined
pub mod Lets
pub mod Marked
pub mod NotedParts
pub mod Searched
