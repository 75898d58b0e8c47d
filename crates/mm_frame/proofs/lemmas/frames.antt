-- Frames: mandatory hypotheses by their numbers, and frames that are the same.

pub mod FrameNumbers
pub mod Frames
pub mod HypothesisNumbers
pub mod MandatoryLemmas
pub mod SameFrames
pub mod SameLemmas
pub mod SharedFrames
pub mod VariableLemmas
