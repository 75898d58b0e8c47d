use Rattle.std.proofs.{lemmas.{Bool.{false≢true}, Grind.{common_steps}}, Common.{arith}}
use Rattle.mm_frame.proofs.judge.is_right.Goals as goal

pub returns-then-n-gt0-clause-fault : goal.returns-then-n-gt0-clause-fault
returns-then-n-gt0-clause-fault c t all before name h k is =
    grind (arith, common_steps, false≢true, c.may_follow_as.ensures.follows t all before name h k is) steps 200000
