pub mod Held
pub mod MadeCode
