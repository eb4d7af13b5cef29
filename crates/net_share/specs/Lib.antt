pub mod Copying
pub mod Standing
pub mod Marking
pub mod Numbering
pub mod Renaming
pub mod Making
pub mod Sharing
