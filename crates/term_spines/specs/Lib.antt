pub mod Forms
pub mod Kinding
pub mod Spines
