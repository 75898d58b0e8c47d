-- What the code keeps: private contracts and loop invariants cite it.
pub mod InFiles
pub mod Written
pub mod Answered
