pub mod Answers
pub mod Cycles
pub mod Firsts
pub mod Limits
pub mod Payloads
pub mod Walks
