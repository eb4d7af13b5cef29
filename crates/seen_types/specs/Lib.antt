pub mod Closed
pub mod Each
pub mod Keeping
pub mod NumberOf
pub mod SeenView
