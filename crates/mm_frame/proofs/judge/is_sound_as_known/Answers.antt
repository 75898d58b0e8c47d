use Rattle.std.proofs.{Common.{arith}, lemmas.Grind.{common_steps}}
use Rattle.mm_frame.proofs.lemmas.faults.FaultLemmas.{at_end, enough_symbols, none_there}
use Rattle.mm_frame.proofs.judge.is_sound_as_known.Goals as goal

pub returns-then-is_none-clause-fault : goal.returns-then-is_none-clause-fault
returns-then-is_none-clause-fault c right before h k a =
    grind (arith, common_steps, none_there c.front_fault.result c.if-is_none.ensures, c.front_fault.ensures before h k, c.are_right.ensures.faults right c.args.names.now before h k a, at_end, enough_symbols) steps 500000
