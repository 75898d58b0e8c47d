use Rattle.std.proofs.{Common.{arith}, lemmas.Grind.{common_steps}}
use Rattle.mm_frame.proofs.lemmas.scope.KnownLemmas.{is_declared_in}
use Rattle.mm_frame.proofs.tables.Tables.is_symbol.Goals as goal

pub returns-in-Some : goal.returns-in-Some
returns-in-Some c before k = grind (arith, common_steps, k.names c.args.name.now, is_declared_in before c.args.name.now) steps 200000

pub returns-in-None : goal.returns-in-None
returns-in-None c before k = grind (arith, common_steps, k.names c.args.name.now, is_declared_in before c.args.name.now) steps 200000
