pub mod Graphs
pub mod Listed
pub mod Spines
pub mod There
