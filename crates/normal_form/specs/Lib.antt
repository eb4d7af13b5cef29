pub mod Entries
pub mod MadeIn
pub mod States
pub mod UseOrders
