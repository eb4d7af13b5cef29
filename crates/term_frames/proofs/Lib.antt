pub mod Built
pub mod FieldsPut
pub mod Numbered
pub mod Signed
pub mod VarsFound
