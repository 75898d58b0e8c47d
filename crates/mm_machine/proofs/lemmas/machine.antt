-- The machine: its stack, substitution, citations, pairs, and runs of it.

pub mod ApartLemmas
pub mod CitingFaults
pub mod CopyLemmas
pub mod EntryFaults
pub mod FillLemmas
pub mod FlatLemmas
pub mod GatherLemmas
pub mod Given
pub mod KeyOrderLemmas
pub mod LastingLemmas
pub mod MarkLemmas
pub mod PairClauseLemmas
pub mod Reaching
pub mod RoomLemmas
pub mod Running
pub mod SetLemmas
pub mod SlotLemmas
pub mod StackLemmas
pub mod PushLemmas
pub mod StepLemmas
pub mod Substituted
pub mod TakenLemmas
pub mod Threaded
pub mod Turning
