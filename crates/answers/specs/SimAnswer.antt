pub mod Laws
pub mod Places
pub mod ReadBack
pub mod Simulation
pub mod Types
