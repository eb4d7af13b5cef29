pub mod Functions
pub mod Rules
