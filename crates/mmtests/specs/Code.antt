-- What the tests keep: private contracts and loop invariants cite it.
pub mod Spelled
pub mod SpelledAssertions
