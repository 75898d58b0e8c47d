pub mod ResultLemmas
pub mod SpelledLemmas
