use Rattle.std.proofs.{Common.{arith}, lemmas.Grind.{common_steps}}
use Rattle.mm_report.proofs.answer.ask.Goals as goal

pub returns-in-Ask : goal.returns-in-Ask
returns-in-Ask g c one is = grind (arith, common_steps) steps 200000
