use Rattle.std.proofs.{Common.{arith, append-nil}, lemmas.Grind.{common_steps}}
use Rattle.mm_frame.proofs.lemmas.{lists.{Members.{get_in}, Rising.{in_among}}, pairs.FramePairs.{no_second, nothing}}
use Rattle.mm_frame.proofs.mandatory.add_variable.Goals as goal

pub returns-then-stands_at : goal.returns-then-stands_at
returns-then-stands_at c rising = grind (arith, common_steps, append-nil, in_among, get_in) steps 200000

pub returns-in_default : goal.returns-in_default
returns-in_default c rising = grind (arith, common_steps, append-nil, no_second, nothing) steps 200000
