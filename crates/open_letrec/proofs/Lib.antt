pub mod Ids
pub mod Joined
pub mod Lasts
pub mod Stored
pub mod Types
pub mod Wholes
