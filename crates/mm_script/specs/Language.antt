-- The language: what the contracts of public calls cite, all the way down.
pub mod Stream
pub mod Script
pub mod Commands
pub mod ReadingLaws
pub mod ScriptExamples
