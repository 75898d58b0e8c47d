-- What the code keeps: private contracts and loop invariants cite it.
pub mod LeftToRight
pub mod Reader
pub mod Cursor
pub mod UnitReading
pub mod BlockCounts
pub mod Grammar
pub mod PartReading
