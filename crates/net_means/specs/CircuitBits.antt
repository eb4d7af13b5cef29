pub mod Blocks
pub mod Example
pub mod Instances
pub mod Laws
pub mod Leaves
pub mod Memories
pub mod Uses
