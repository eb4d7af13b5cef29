pub mod Arguments
pub mod Constants
pub mod Lifting
pub mod Projections
pub mod Shapes
pub mod Views
