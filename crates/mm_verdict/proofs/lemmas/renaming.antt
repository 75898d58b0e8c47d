-- A renaming of symbols keeps what a proof decodes to; the names of labels.

pub mod NameLemmas
pub mod RenamedDecoding
