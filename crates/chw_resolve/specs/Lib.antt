pub mod Faults
pub mod Kinds
pub mod Literals
pub mod Programs
pub mod Terms
pub mod Types
pub mod Walks
pub mod Written
