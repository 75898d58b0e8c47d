use Rattle.std.proofs.{lemmas.{List.{drop_all, take_rest}, Grind.{common_steps}}, Common.{arith, le-leb}}
use Rattle.mm_frame.proofs.lemmas.scope.BlockLemmas.{marks_count}
use Rattle.mm_frame.proofs.blocks.Blocks.is_active_now.Goals as goal

pub is_active-requires-clause-within : goal.is_active-requires-clause-within
is_active-requires-clause-within c = grind (arith, common_steps, marks_count c.self.inside.ends.items c.self.inside.block_of.items c.args.self.now c.self.view_is) steps 200000

pub returns-then-from-len : goal.returns-then-from-len
returns-then-from-len c = grind (arith, common_steps, drop_all, le-leb, marks_count) steps 200000

pub returns-else-from-len : goal.returns-else-from-len
returns-else-from-len c = grind (arith, common_steps, take_rest, marks_count) steps 200000
