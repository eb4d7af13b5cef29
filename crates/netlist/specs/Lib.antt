pub mod Examples
pub mod Feeds
pub mod NetValue
pub mod Operators
pub mod Orders
pub mod Sound
pub mod Waits
pub mod Wires
