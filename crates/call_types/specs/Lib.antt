pub mod Arguments
pub mod CallTypes
