use Rattle.std.proofs.{Common.{arith}, lemmas.{Grind.{common_steps}, List.{length-replicate, get_or-replicate}, Bool.{false≢true}}, Math.Decide.{dec_lt}}
use Rattle.mm_keep.proofs.ChainLemmas.{marked_within}
use Rattle.mm_keep.proofs.citing.no_marks.Goals as goal

pub returns-clause-none : goal.returns-clause-none
returns-clause-none c = grind (arith, common_steps, dec_lt, marked_within, length-replicate, false≢true, get_or-replicate) steps 200000
