mod Backward
mod Begins
pub mod Counts
mod Down
mod Firsts
pub mod Lambdas
mod Looked
mod LookedStates
mod LookedUnder
mod Numbered
mod Onward
mod Options
mod Quiet
pub mod Stands
mod States
pub mod Under
mod Watched
