pub mod Drivers
pub mod Entering
pub mod Examples
pub mod Flattened
pub mod Instances
pub mod Sizes
