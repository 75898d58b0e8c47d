use Rattle.mm_frame.proofs.lemmas.base.ActiveItems.{active_is_meant, ended_is_meant}
use Rattle.mm_frame.proofs.laws.hypotheses_mean.Goals as goal

pub returns-clause-active : goal.returns-clause-active
returns-clause-active c = active_is_meant

pub returns-clause-ended : goal.returns-clause-ended
returns-clause-ended c = ended_is_meant
