pub mod BitNames
pub mod Bitnet
pub mod Blast
pub mod CellLaws
pub mod Driven
pub mod Examples
pub mod Gates
pub mod Keeping
