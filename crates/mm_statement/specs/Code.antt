-- What the code keeps: private contracts and loop invariants cite it.
pub mod Occurring
pub mod PlainWords
pub mod KeptStatement
pub mod KeptWords
