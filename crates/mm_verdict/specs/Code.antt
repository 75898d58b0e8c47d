-- What the code keeps: private contracts and loop invariants cite it.
pub mod Left
pub mod Coded
pub mod Reader
pub mod LeftToRight
pub mod Labels
pub mod Cited
pub mod KeptWork
pub mod NamedItems
pub mod KeptChecker
pub mod UsedLabels
pub mod Judged
pub mod DecodedProof
pub mod NumberedBase
