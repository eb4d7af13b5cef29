pub mod MakeText
pub mod MakeTree
