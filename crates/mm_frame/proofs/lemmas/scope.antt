-- What is active: blocks, scopes, and what the sound items declare.

pub mod ActiveBySplit
pub mod ActiveUntil
pub mod Activity
pub mod BlockLemmas
pub mod EndLemmas
pub mod Facts
pub mod Heights
pub mod KeptScopeLemmas
pub mod KnownLemmas
pub mod SoundItems
pub mod Stack
pub mod TableLemmas
