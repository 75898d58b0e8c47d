use Rattle.std.proofs.{Common.{arith, rules}, lemmas.Grind.{common_steps}}
use Rattle.mm_frame.proofs.lemmas.base.BaseLemmas.{kept_are_sound}
use Rattle.mm_frame.proofs.passed.Passed.earlier.Goals as goal

pub returns : goal.returns
returns c all said d = first_of (search (rules, kept_are_sound said), grind (arith, common_steps, kept_are_sound said))
