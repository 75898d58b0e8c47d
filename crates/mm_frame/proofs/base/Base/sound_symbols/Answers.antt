use Rattle.std.proofs.{Common.{arith}, lemmas.{Grind.{common_steps}, Bool.{and_from}}}
use Rattle.mm_frame.proofs.lemmas.base.AnswerLemmas.{expression_read, expression_numbered}
use Rattle.mm_frame.proofs.base.Base.sound_symbols.Goals as goal

pub returns-clause-symbols : goal.returns-clause-symbols
returns-clause-symbols c names base is read = grind (arith, common_steps, and_from, expression_read) steps 200000

pub returns-clause-numbered : goal.returns-clause-numbered
returns-clause-numbered c names base is = grind (arith, common_steps, expression_numbered names base c.args.self.now.expressions c.args.i is.expressions) steps 200000
