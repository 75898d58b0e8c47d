use Rattle.std.proofs.{Common.{arith}, lemmas.Grind.{common_steps}}
use Rattle.mm_verdict.proofs.reading.mandatory.Goals as goal

pub returns : goal.returns
returns c view is framed = grind (arith, common_steps, c.frame.ensures.numbers view is) steps 200000
