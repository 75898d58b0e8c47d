use Rattle.std.proofs.{Common.{arith}, lemmas.Grind.{common_steps}}
use Rattle.mm_verdict.proofs.citing.mark.Goals as goal

pub returns-in_ok-push-in-Assertion-2 : goal.returns-in_ok-push-in-Assertion-2
returns-in_ok-push-in-Assertion-2 c = grind (arith, common_steps)
