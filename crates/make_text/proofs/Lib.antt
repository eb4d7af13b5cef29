mod Ahead
mod Description
mod Filter
mod Forms
mod Joined
mod Short
mod Spaced
mod Written
