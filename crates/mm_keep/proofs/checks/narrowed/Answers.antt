use Rattle.std.proofs.{Common.{arith, take_all, ◌∙◌}, lemmas.{Grind.{common_steps}, List.{take_more}}}
use Rattle.mm_keep.proofs.checks.narrowed.Goals as goal

pub loop-number-preserved : goal.loop-number-preserved
loop-number-preserved c = grind (arith, common_steps, take_more c.args.numbers.now c.loop-number.number-index 0 c.loop-number-test.true) steps 200000

pub returns : goal.returns
returns c = c.loop-number.invariant ∙ take_all c.loop-number.number-index c.args.numbers.now c.loop-number-test.false
