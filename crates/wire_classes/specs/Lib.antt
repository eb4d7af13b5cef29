pub mod Classes
pub mod Closed
pub mod Keys
pub mod Steps
pub mod Partition
pub mod Seen
