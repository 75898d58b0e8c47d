pub mod ListLemmas
pub mod SpokenLemmas
pub mod PieceLemmas
pub mod NthOfProof
pub mod ByteLemmas
pub mod LocatedLemmas
pub mod NameLemmas
pub mod ExampleLemmas
