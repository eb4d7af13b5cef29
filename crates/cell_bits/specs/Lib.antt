pub mod AddressLaws
pub mod Bearing
pub mod ChoiceLaws
pub mod DataLaws
pub mod ElementLaws
pub mod WordExamples
pub mod WordLaws
