pub mod Examples
pub mod Left
pub mod Same
pub mod Shares
