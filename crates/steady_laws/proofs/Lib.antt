pub mod GivenStay
pub mod Parts
pub mod Shown
pub mod Stays
pub mod Steps
pub mod ValueKinds
pub mod ValueTerms
