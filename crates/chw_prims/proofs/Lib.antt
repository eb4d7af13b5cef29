mod All
pub mod SchemaKinds
