pub mod ValueIn
