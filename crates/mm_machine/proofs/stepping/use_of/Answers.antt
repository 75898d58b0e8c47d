use Rattle.std.proofs.{lemmas.{Grind.{elements}, Option.{slice_get-get_or}}, Common.{arith}}
use Rattle.mm_machine.proofs.lemmas.machine.StepLemmas.{used_at, unused_at}
use Rattle.mm_machine.proofs.stepping.use_of.Goals as goal

pub returns-then-k-uses : goal.returns-then-k-uses
returns-then-k-uses c = grind (arith, elements, slice_get-get_or, used_at) steps 200000

pub returns-else-k-uses-clause-means : goal.returns-else-k-uses-clause-means
returns-else-k-uses-clause-means c expressions frames place names all = unused_at expressions frames place c.args.uses.now names c.args.k (omega (arith, c.if-k-uses.false)) all
