use Rattle.std.proofs.{lemmas.Grind.{common_steps}, Common.{true, sym, ◌∙◌, arith}}
use Rattle.mm_text.proofs.MarkLemmas.{mark_here, mark_end}
use Rattle.mm_text.proofs.spelling.has_mark.Goals as goal

pub returns-then-is_comment_mark : goal.returns-then-is_comment_mark
returns-then-is_comment_mark c = sym (mark_here c.args.run.now c.loop-i.i true c.loop-i.auto.i c.loop-i-test.true (sym c.if-is_comment_mark.ensures)) ∙ c.loop-i.invariant

pub loop-i-preserved : goal.loop-i-preserved
loop-i-preserved c = grind (arith, common_steps) steps 200000

pub returns : goal.returns
returns c = sym (mark_end c.args.run.now c.loop-i.i c.loop-i-test.false) ∙ c.loop-i.invariant
