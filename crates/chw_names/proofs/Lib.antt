pub mod Declaring
pub mod Earliest
mod Primitives
mod Sizes
pub mod Spaces
pub mod Steps
pub mod TwiceTerms
pub mod UnknownTerms
pub mod UnknownTypes
pub mod Walking
pub mod Whole
