-- Lemmas by what they are about. What is proved of one function is in the folder of its module.

pub mod lists
pub mod machine
pub mod renaming
pub mod verdicts
