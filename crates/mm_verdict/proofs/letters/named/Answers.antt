use Rattle.std.proofs.{lemmas.Grind.{common_steps}, Common.{arith}}
use Rattle.mm_verdict.proofs.lemmas.renaming.NameLemmas.{named_save, named_nothing}
use Rattle.mm_verdict.proofs.letters.named.Goals as goal

pub returns-then-value-labels-2-clause-says : goal.returns-then-value-labels-2-clause-says
returns-then-value-labels-2-clause-says c = grind (arith, common_steps, named_save) steps 200000

pub returns-else-value-labels-2-clause-says : goal.returns-else-value-labels-2-clause-says
returns-else-value-labels-2-clause-says c = grind (arith, common_steps, named_nothing) steps 200000
