use Rattle.std.proofs.{Common.{arith}, lemmas.{Grind.{elements}, Option.{slice_get_within, slice_get-get_or}}}
use Rattle.mm_machine.proofs.pairs.set_of.Goals as goal

pub returns : goal.returns
returns c = grind (arith, elements, slice_get-get_or, slice_get_within) steps 200000
