-- Verdicts over the definitions alone: what is derived, reached or at fault, and that there is one.

pub mod Choices
pub mod Fronts
pub mod Joins
pub mod Lines
pub mod Moving
pub mod OneVerdict
pub mod Part
pub mod Unique
pub mod Weights
