-- What a base and its files say of an item and its labels.

pub mod BaseLemmas
pub mod FrameLemmas
pub mod SaysLemmas
pub mod StoodLemmas
