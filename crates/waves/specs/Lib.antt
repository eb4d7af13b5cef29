pub mod Examples
pub mod Holding
pub mod Vcd
pub mod Views
