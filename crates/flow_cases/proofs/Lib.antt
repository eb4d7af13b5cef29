pub mod Bare
pub mod Branches
pub mod Forms
pub mod Inversions
pub mod Just
pub mod Makings
pub mod Trials
pub mod Unnamed
