pub mod Bodies
pub mod Lacking
pub mod Lambdas
pub mod Made
pub mod Seen
pub mod Shapes
pub mod Values
