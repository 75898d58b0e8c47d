-- A renaming of symbols, one to one, keeps verdicts; numbers for names are one.

pub mod NumberingLemmas
pub mod RenamedFrames
pub mod RenamingLemmas
