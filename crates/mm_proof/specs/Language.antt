-- The language: what the contracts of public calls cite, all the way down.
pub mod ViewLaws
pub mod BaseMarks
