pub mod Circuits
pub mod Cycles
pub mod Examples
pub mod Kinds
pub mod Laws
pub mod Named
pub mod Promises
