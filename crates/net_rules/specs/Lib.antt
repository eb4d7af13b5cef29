pub mod Marks
pub mod PortsHold
pub mod WellFormed
