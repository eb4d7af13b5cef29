pub mod BlifText
pub mod Faults
pub mod Lines
pub mod Pieces
pub mod Printed
pub mod Right
pub mod Statements
