-- What the code keeps: private contracts and loop invariants cite it.
pub mod Stops
pub mod Growing
pub mod Lines
pub mod Batches
