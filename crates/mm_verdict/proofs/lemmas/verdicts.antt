-- The verdict on the proof of an item, and how many of its steps are done.

pub mod ItemLemmas
pub mod NormalLemmas
