use Rattle.std.proofs.{lemmas.Grind.{common_steps}, Common.{arith, le-leb}}
use Rattle.mm_frame.proofs.lemmas.scope.BlockLemmas.{marks_count, behind_before, before_none}
use Rattle.mm_frame.proofs.blocks.Blocks.is_active_at.Goals as goal

pub is_active-requires-clause-within : goal.is_active-requires-clause-within
is_active-requires-clause-within c = grind (arith, common_steps, marks_count) steps 200000

pub returns-then-end-from : goal.returns-then-end-from
returns-then-end-from c = grind (arith, common_steps, le-leb, before_none, marks_count) steps 200000

pub returns-else-end-from : goal.returns-else-end-from
returns-else-end-from c = grind (arith, common_steps, behind_before, marks_count) steps 200000
