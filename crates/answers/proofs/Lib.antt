pub mod Compilation
pub mod MakeAnswer
pub mod SimAnswer
