use Rattle.std.proofs.{lemmas.Grind.{common_steps}, Common.{arith}}
use Rattle.mmkeep.proofs.{CleanLemmas.{clean_by_faults, not_clean}, performing.is_clean.Goals.{then-tally-eq0, else-tally-eq0}}
use Rattle.mmkeep.proofs.performing.is_clean.Goals as goal

pub returns-then-tally-eq0-2 : goal.returns-then-tally-eq0-2
returns-then-tally-eq0-2 c names items all count same = grind (arith, common_steps, clean_by_faults, else-tally-eq0, then-tally-eq0) steps 200000

pub returns-else-tally-eq0-2 : goal.returns-else-tally-eq0-2
returns-else-tally-eq0-2 c names items all count same = not_clean names items all c.args.tally.now count same c.if-tally-eq0.value c.if-tally-eq0-2.false (λ i w. elim c.if-tally-eq0.branch [
  | then-tally-eq0 v ↦ grind (arith, v.value-is, c.if-tally-eq0-2.false, w)
  | else-tally-eq0 v ↦ grind (arith, v.value-is, v.if-tally-eq0, i)
])
