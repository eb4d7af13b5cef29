pub mod Bits
pub mod BitsCode
pub mod Bitwise
pub mod Hex
pub mod Integers
