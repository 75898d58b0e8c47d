-- The language: what the contracts of public calls cite, all the way down.
pub mod Pieces
pub mod FilesView
pub mod FileFacts
pub mod Expansion
pub mod Walking
pub mod Holding
pub mod Keyless
pub mod Edits
pub mod Appending
pub mod Undoing
pub mod EditedKeys
pub mod Answers
pub mod Batches
pub mod Examples
pub mod EditExamples
