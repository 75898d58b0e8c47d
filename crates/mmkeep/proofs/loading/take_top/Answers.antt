use Rattle.std.proofs.{Common.{arith}, lemmas.Grind.{common_steps}}
use Rattle.mmkeep.proofs.LoadLemmas.{stops_top, takes_top}
use Rattle.mmkeep.proofs.loading.take_top.Goals as goal

pub returns-clause-taken : goal.returns-clause-taken
returns-clause-taken g c = grind (arith, common_steps, takes_top) steps 200000

pub returns-clause-refused : goal.returns-clause-refused
returns-clause-refused g c = grind (arith, common_steps, stops_top) steps 200000
