use Rattle.mmkeep.proofs.LoadLemmas.{unread_error}
use Rattle.mmkeep.proofs.adding.add_unread.Goals as goal

pub returns-in-Err-clause-refused : goal.returns-in-Err-clause-refused
returns-in-Err-clause-refused g c = unread_error _ _ c.in-Err.error c.in-Err.ensures.errors
