-- Lemmas by what they are about. What is proved of one function is in the folder of its module.

pub mod edits
pub mod expansion
pub mod files
pub mod places
