use Rattle.std.proofs.{lemmas.{List.Folds.{list_any-append}, Grind.{common_steps}}, Common.{arith}}
use Rattle.mm_frame.proofs.lemmas.faults.FaultLemmas.{same_test}
use Rattle.mm_frame.proofs.judge.is_repeated.Goals as goal

pub returns-then-kept : goal.returns-then-kept
returns-then-kept c h = grind (arith, common_steps, list_any-append, same_test) steps 500000
