pub mod Chains
pub mod CircuitHeads
pub mod Constants
pub mod Laws
pub mod PartLaws
pub mod PrimLaws
pub mod Rest
pub mod Spines
