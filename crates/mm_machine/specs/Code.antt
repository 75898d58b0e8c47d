-- What the code keeps: private contracts and loop invariants cite it.
pub mod Flat
pub mod Filling
pub mod Citation
pub mod PairClause
pub mod Ranges
pub mod MachineState
pub mod Tasks
