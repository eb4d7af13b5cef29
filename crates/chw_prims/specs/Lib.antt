pub mod Names
pub mod SchemaKinds
pub mod Schemas
mod Signatures
