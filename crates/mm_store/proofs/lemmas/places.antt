-- Where pieces and their bytes are: starts, lines and columns.

pub mod ByteLemmas
pub mod ChangeLemmas
pub mod OffsetLemmas
pub mod PlaceLemmas
pub mod StartLemmas
