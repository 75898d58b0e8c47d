pub mod AskingLemmas
pub mod CleanLemmas
pub mod LoadLemmas
pub mod GivenLemmas
pub mod PerformLemmas
pub mod ExampleLemmas
pub mod LoadingExampleLemmas
