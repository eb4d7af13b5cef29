pub mod Laws
pub mod WidthLaws
pub mod Widths
