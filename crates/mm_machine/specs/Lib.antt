pub mod Language
pub mod Code
