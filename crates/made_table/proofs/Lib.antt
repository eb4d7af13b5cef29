mod Bodies
mod Keyed
mod Opened
