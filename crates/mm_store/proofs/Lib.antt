pub mod lemmas
pub mod Rows
pub mod EditExampleLemmas
pub mod ExampleLemmas
