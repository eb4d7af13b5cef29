pub mod Clocked
pub mod Connected
pub mod Declares
pub mod Firsts
pub mod Found
pub mod Resolves
