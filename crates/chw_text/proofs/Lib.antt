pub mod DeclarationForms
pub mod Parts
pub mod Spaces
pub mod TermForms
pub mod TypeForms
