-- The language: what the contracts of public calls cite, all the way down.
pub mod WordPlaces
pub mod Told
pub mod Findings
pub mod Runs
pub mod Citations
pub mod Sessions
pub mod Refusals
pub mod Derivable
pub mod Resting
pub mod Laws
