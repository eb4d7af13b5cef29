pub mod Adding
pub mod Decoded
pub mod Encoded
pub mod Unfolded
