mod Back
mod FlatCells
mod FlatWidths
mod Forth
mod Instances
mod Moved
mod Sources
