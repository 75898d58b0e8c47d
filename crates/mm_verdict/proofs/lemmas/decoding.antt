-- Decoding: words and letters of a proof, numbers, groups, and the steps that they give.

pub mod DecodeLemmas
pub mod DecodedProofs
pub mod GroupLemmas
pub mod JoinLemmas
pub mod LeftLemmas
pub mod ListLemmas
pub mod NormalLemmas
pub mod NumberLemmas
pub mod OrderLemmas
pub mod ReadOnLemmas
pub mod ReaderLemmas
pub mod ShortLemmas
pub mod SpotLemmas
pub mod SureLemmas
pub mod TableLemmas
