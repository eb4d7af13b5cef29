pub mod Laws
pub mod TermSigns
pub mod TypeSigns
pub mod Written
