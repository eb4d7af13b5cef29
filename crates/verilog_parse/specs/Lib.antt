pub mod Follow
pub mod Reading
pub mod Rests
pub mod RowMarks
pub mod Rows
pub mod Slots
