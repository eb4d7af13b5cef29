pub mod Shapes
pub mod Tables
pub mod Taken
pub mod Walks
