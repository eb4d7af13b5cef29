pub mod LeavesFound
pub mod RowLoops
pub mod RowMade
pub mod RowsTell
pub mod Settling
pub mod TypeTexts
