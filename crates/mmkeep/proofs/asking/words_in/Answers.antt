use Rattle.std.proofs.{Common.{arith}, lemmas.Grind.{common_steps}}
use Rattle.mmkeep.proofs.asking.words_in.Goals as goal

pub loop-argument-preserved : goal.loop-argument-preserved
loop-argument-preserved c = grind (arith, common_steps)

pub returns : goal.returns
returns c = grind (arith, common_steps)
