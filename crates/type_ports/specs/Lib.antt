pub mod Ports
pub mod PortsFound
pub mod Representable
pub mod RowsFound
pub mod RowsRight
pub mod TypeText
