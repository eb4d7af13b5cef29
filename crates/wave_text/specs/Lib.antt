pub mod Faults
pub mod Printable
pub mod PrintedWave
pub mod Values
pub mod VcdText
pub mod Words
