-- What the code keeps: private contracts and loop invariants cite it.
pub mod KeptMarks
pub mod TwoTheorems
pub mod InStep
