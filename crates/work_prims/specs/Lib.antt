pub mod Elements
pub mod Given
pub mod Results
pub mod Rules
pub mod Unnamed
