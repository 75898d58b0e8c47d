use Rattle.std.proofs.Common.{refl}
use Rattle.mmkeep.proofs.PerformLemmas.{on_error}
use Rattle.mmkeep.proofs.performing.answer.Goals as goal

pub returns-in-Axioms-clause-stopped : goal.returns-in-Axioms-clause-stopped
returns-in-Axioms-clause-stopped g c = rw c.in-Axioms.is (on_error c.list_axioms.result (λ error stops. (refl, stops)) c.list_axioms.ensures.stopped)
