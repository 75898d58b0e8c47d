-- Edits: what each makes of the files, when it is refused, how it is undone, and several together.

pub mod AnswerLemmas
pub mod BatchLemmas
pub mod EditLawLemmas
pub mod EditLemmas
pub mod HoldingLemmas
pub mod ReasonLemmas
pub mod RefusalLemmas
pub mod RefusedLemmas
pub mod SettleLemmas
pub mod StepLemmas
pub mod UndoLemmas
