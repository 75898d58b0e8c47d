-- The language: what the contracts of public calls cite, all the way down.
pub mod Run
pub mod Layout
pub mod Spelling
pub mod Reading
pub mod Place
pub mod Unit
pub mod Cut
pub mod Part
pub mod Stretch
pub mod Asked
pub mod WordsLeft
pub mod Examples
pub mod StandardExamples
