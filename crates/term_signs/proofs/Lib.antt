pub mod Behind
pub mod Compared
pub mod Reading
pub mod TermsWritten
pub mod Told
pub mod TypesWritten
