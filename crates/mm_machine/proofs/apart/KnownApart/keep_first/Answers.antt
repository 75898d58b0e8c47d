use Rattle.std.proofs.{Common.{rules, arith}, lemmas.Grind.{common_steps}}
use Rattle.mm_machine.proofs.lemmas.machine.SetLemmas.{known_first, padded}
use Rattle.mm_machine.proofs.apart.KnownApart.keep_first.Goals as goal

pub loop-self-preserved : goal.loop-self-preserved
loop-self-preserved c = search (rules, padded)

pub returns : goal.returns
returns c active all knows apart = grind (arith, common_steps, known_first) steps 200000
