pub mod Output
pub mod Stimulus
pub mod Texts
pub mod Words
