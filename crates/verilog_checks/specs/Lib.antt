pub mod Fitting
pub mod Formed
pub mod Least
pub mod Narrow
