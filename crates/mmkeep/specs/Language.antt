-- The language: what the contracts of public calls cite, all the way down.
pub mod Asking
pub mod Loading
pub mod Performing
pub mod Status
pub mod Examples
pub mod LoadingExamples
