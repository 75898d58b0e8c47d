pub mod lemmas
pub mod Rows
pub mod ExampleLemmas
pub mod FaultExampleLemmas
pub mod StepExampleLemmas
