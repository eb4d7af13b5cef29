pub mod Ends
pub mod FlatNets
pub mod Once
pub mod Shared
pub mod SingleBits
pub mod There
