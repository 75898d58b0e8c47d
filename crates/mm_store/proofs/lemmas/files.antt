-- Files: names, keys, pieces, and how they are kept.

pub mod AddLemmas
pub mod EntryLemmas
pub mod FileLemmas
pub mod FilesLemmas
pub mod GrowthLemmas
pub mod HoldLemmas
pub mod KeptLemmas
pub mod ListLemmas
pub mod MapLemmas
pub mod NamedLemmas
pub mod NumberLemmas
pub mod PieceLemmas
pub mod SlabLemmas
pub mod StoreLemmas
pub mod ViewLemmas
