-- Lemmas by what they are about. What is proved of one function is in the folder of its module.

pub mod base
pub mod faults
pub mod frames
pub mod lists
pub mod names
pub mod pairs
pub mod reading
pub mod scope
