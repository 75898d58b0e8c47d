-- Proofs that mean the same decode to the same, and cite by the same words.

pub mod SameCites
pub mod SameLemmas
