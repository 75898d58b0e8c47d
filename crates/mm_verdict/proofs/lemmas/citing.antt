-- The words of a proof that cite, and the assertions that they name.

pub mod CitedWordLemmas
pub mod MarkedLemmas
pub mod RiseLemmas
pub mod TellLemmas
