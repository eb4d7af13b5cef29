pub mod LeavesAgree
pub mod Numbering
pub mod SameLayout
pub mod ZeroThere
