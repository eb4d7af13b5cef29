pub mod FieldTypes
pub mod InScope
pub mod Numbers
pub mod Signatures
pub mod VarsView
