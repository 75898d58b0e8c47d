use Rattle.std.proofs.{Common.{rules, arith}, lemmas.Bool.{false≢true}}
use Rattle.mm_store.proofs.lemmas.files.ViewLemmas.{number_plain}
use Rattle.mm_store.proofs.walk.Walk.include.Goals as goal

pub returns-in-None-clause-ok : goal.returns-in-None-clause-ok
returns-in-None-clause-ok c = grind (arith, number_plain c.args.files.now c.args.name.now) steps 200000

pub returns-in_ok-enter-in-Some-clause-ok : goal.returns-in_ok-enter-in-Some-clause-ok
returns-in_ok-enter-in-Some-clause-ok c = search (rules, false≢true, number_plain c.args.files.now c.args.name.now)
