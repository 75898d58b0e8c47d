use Rattle.std.proofs.{Common.{arith}, lemmas.{Grind.{common_steps}, Bool.{false_from_ne_true}}}
use Rattle.mm_frame.proofs.lemmas.base.ResolvingLemmas.{active_means, inactive_means}
use Rattle.mm_frame.proofs.base.Base.active_until.Goals as goal

pub returns-clause-active : goal.returns-clause-active
returns-clause-active c base label i is carrier hypothesis later up = grind (arith, common_steps, c.active_until.ensures i later, active_means) steps 200000

pub returns-clause-ended : goal.returns-clause-ended
returns-clause-ended c base label i is carrier hypothesis later past = grind (arith, common_steps, c.active_until.ensures i later, inactive_means, false_from_ne_true) steps 200000
