use Rattle.std.proofs.{lemmas.{Grind.{common_steps}, Option.{slice_get-map, slice_get_read}}, Common.{arith}}
use Rattle.mm_verdict.proofs.checking.verdict.Goals as goal

pub returns-in-Unknown : goal.returns-in-Unknown
returns-in-Unknown c view place statement says = grind (arith, common_steps, slice_get-map, slice_get_read) steps 200000
