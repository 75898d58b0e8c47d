use Rattle.std.proofs.{lemmas.{Bool.{and_from, and_parts}, Grind.{common_steps}}, Common.{arith}}
use Rattle.mm_frame.proofs.lemmas.base.AnswerLemmas.{expression_read, expression_numbered}
use Rattle.mm_frame.proofs.base.Base.expression.Goals as goal

pub returns-then-is_shown-clause-symbols : goal.returns-then-is_shown-clause-symbols
returns-then-is_shown-clause-symbols c names base is = grind (arith, common_steps, expression_read, and_parts, and_from) steps 200000

pub returns-then-is_shown-clause-numbered : goal.returns-then-is_shown-clause-numbered
returns-then-is_shown-clause-numbered c names base is = grind (arith, common_steps, expression_numbered names base c.args.self.now.expressions c.args.i is.expressions) steps 200000
