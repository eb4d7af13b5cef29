pub mod FirstLet
pub mod Flat
pub mod WhereJoined
pub mod OneGroup
