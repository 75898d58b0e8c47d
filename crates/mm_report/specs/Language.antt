-- The language: what the contracts of public calls cite, all the way down.
pub mod Report
pub mod Answers
pub mod Scripting
pub mod Laws
pub mod ScriptLaws
pub mod Examples
