use Rattle.mmkeep.proofs.PerformLemmas.{clean_in_order, judged_clean, judged_else}
use Rattle.mmkeep.proofs.performing.judge.Goals as goal

pub returns-then-is_clean-clause-judged : goal.returns-then-is_clean-clause-judged
returns-then-is_clean-clause-judged c = judged_clean c.args.session.now c.tally.result c.is_clean.result c.tally.ensures c.is_clean.ensures c.if-is_clean.true

pub returns-then-is_clean-clause-derived : goal.returns-then-is_clean-clause-derived
returns-then-is_clean-clause-derived c = clean_in_order c.clean_is_derived.ensures _ _ (returns-then-is_clean-clause-judged c)

pub returns-else-is_clean-clause-judged : goal.returns-else-is_clean-clause-judged
returns-else-is_clean-clause-judged c = judged_else c.args.session.now c.tally.result c.is_clean.result c.tally.ensures c.is_clean.ensures c.if-is_clean.false
