-- What the code keeps: private contracts and loop invariants cite it.
pub mod Inside
pub mod States
pub mod Slots
pub mod Room
pub mod Starts
pub mod Kept
pub mod Edited
pub mod Units
pub mod Lines
pub mod Gains
pub mod Steps
pub mod Walked
pub mod Undone
pub mod Batched
