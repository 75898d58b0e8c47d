use Rattle.std.proofs.{Common.{arith}, lemmas.Grind.{common_steps}}
use Rattle.mm_frame.proofs.lemmas.frames.HypothesisNumbers.{active_numbers_more}
use Rattle.mm_frame.proofs.active_numbers.ActiveNumbers.push.Goals as goal

pub returns-clause-next : goal.returns-clause-next
returns-clause-next c test before item m t n o = grind (arith, common_steps, active_numbers_more) steps 200000
