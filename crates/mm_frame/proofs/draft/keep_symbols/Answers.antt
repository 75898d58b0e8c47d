use Rattle.std.proofs.{Common.{arith}, lemmas.{Grind.{common_steps}, Result.{on_ok_weaker}}}
use Rattle.mm_frame.proofs.lemmas.names.NamedLemmas.{each_numbered, read_all, variables_read_all}
use Rattle.mm_frame.proofs.draft.keep_symbols.Goals as goal

pub returns-then-is_some : goal.returns-then-is_some
returns-then-is_some c = grind (arith, common_steps, on_ok_weaker, each_numbered, read_all) steps 200000

pub returns-then-is_disjoint : goal.returns-then-is_disjoint
returns-then-is_disjoint c = grind (arith, common_steps, on_ok_weaker, each_numbered, variables_read_all) steps 200000
