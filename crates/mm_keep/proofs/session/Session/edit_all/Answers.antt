use Rattle.std.proofs.{Common.{arith}, lemmas.Grind.{common_steps}}
use Rattle.mm_keep.proofs.FoundLemmas.{if_changed}
use Rattle.mm_keep.proofs.session.Session.edit_all.Goals as goal

pub returns-clause-runs : goal.returns-clause-runs
returns-clause-runs c = grind (arith, common_steps, if_changed) steps 200000
