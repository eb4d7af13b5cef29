pub mod Items
pub mod Joined
pub mod Noted
