-- What a base keeps of each item, and what it answers.

pub mod ActiveItems
pub mod AnswerLemmas
pub mod BaseLemmas
pub mod FramedItems
pub mod OwnLabels
pub mod ResolvingLemmas
pub mod RowLemmas
pub mod SaidLabels
pub mod StandingItems
pub mod FromOlderLemmas
