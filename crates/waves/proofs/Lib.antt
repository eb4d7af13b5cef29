pub mod Changing
pub mod CodeDigits
pub mod Events
pub mod Tables
pub mod Widths
