mod Counting
pub mod Told
