-- Names, labels and symbols by their numbers.

pub mod Codes
pub mod KnownSymbols
pub mod LabelCodes
pub mod NamedLemmas
pub mod NumberLemmas
