-- Active pairs of variables: of the `$d`, in tables, in lists, and of frames.

pub mod ActivePairLemmas
pub mod PairAnswerLemmas
pub mod FramePairs
pub mod PairListLemmas
pub mod SortedLemmas
pub mod PairOrderLemmas
pub mod DisjointRowLemmas
pub mod PlaceLemmas
pub mod SharedPairs
