pub mod LetrecLaws
pub mod Local
pub mod Many
pub mod StateLaws
pub mod TopLaws
pub mod Tops
