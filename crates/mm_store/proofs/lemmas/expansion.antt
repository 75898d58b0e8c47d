-- The expansion of inclusions, and the walk that makes it.

pub mod AppendLemmas
pub mod BareLemmas
pub mod BudgetLemmas
pub mod CountLemmas
pub mod ExpansionLemmas
pub mod GoesLemmas
pub mod HavingLemmas
pub mod IncludeLemmas
pub mod ItemLemmas
pub mod KeylessLemmas
pub mod NameLemmas
pub mod SetLemmas
pub mod StackLemmas
pub mod StandLemmas
pub mod StandingLemmas
pub mod TurnLemmas
pub mod WalkLemmas
pub mod WalkStepLemmas
pub mod WeightLemmas
