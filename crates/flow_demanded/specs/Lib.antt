pub mod Demanding
pub mod Forms
pub mod Moves
pub mod Rules
