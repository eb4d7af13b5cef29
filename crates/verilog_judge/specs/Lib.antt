pub mod Driving
pub mod Marks
pub mod Meant
pub mod Read
pub mod Shown
pub mod Words
