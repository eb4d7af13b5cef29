mod Digits
pub mod Each
mod HexDigits
mod Padding
mod Reading
pub mod Steps
