-- What is given to the machine: the labels that steps name, and what they name.

pub mod LoadedLemmas
pub mod MarkedLabels
pub mod NamedLemmas
