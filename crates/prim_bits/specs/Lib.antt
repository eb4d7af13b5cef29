pub mod Results
pub mod Values
pub mod Widths
pub mod Words
