pub mod Ending
pub mod Faults
pub mod Follow
pub mod Machine
pub mod Productions
pub mod State
