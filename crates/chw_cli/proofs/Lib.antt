pub mod Asking
pub mod Commands
pub mod Compiling
pub mod Descriptions
pub mod Emitting
pub mod Exactly
pub mod Limits
mod MakeEnds
mod MakeRefusals
pub mod Making
pub mod Normal
pub mod OneText
pub mod Progress
pub mod Reasons
pub mod Runs
pub mod SharedNets
pub mod Simulating
pub mod SingleBits
pub mod Telling
pub mod TwoTexts
pub mod WavesRead
