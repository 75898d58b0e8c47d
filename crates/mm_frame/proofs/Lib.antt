pub mod lemmas
pub mod Rows
