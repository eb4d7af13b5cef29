pub mod Bare
mod Low
mod Ports
