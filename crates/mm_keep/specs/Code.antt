-- What the code keeps: private contracts and loop invariants cite it.
pub mod KeptCheck
pub mod OfFiles
pub mod KeyedTold
pub mod KeptSession
pub mod Asked
pub mod Cited
pub mod Planned
pub mod Next
pub mod Changing
