pub mod Firsts
pub mod Moved
