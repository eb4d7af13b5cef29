pub mod Answers
pub mod AtArguments
pub mod Binding
pub mod Cases
pub mod Groups
pub mod Keying
