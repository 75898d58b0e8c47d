use Rattle.std.proofs.{Common.{arith}, lemmas.{Grind.{common_steps}, Bool.{false≢true}}}
use Rattle.mm_statement.proofs.ByteLemmas.{search_tells, too_few}
use Rattle.mm_statement.proofs.statement.occurs.Goals as goal

pub returns-then-text-bytes : goal.returns-then-text-bytes
returns-then-text-bytes c = (λ yes. absurd (false≢true yes), λ occur. absurd (too_few c.args.text.now c.args.bytes.now c.if-text-bytes.true occur))

pub returns : goal.returns
returns c = grind (arith, common_steps, search_tells c.args.text.now c.args.bytes.now c.find.result c.find.ensures) steps 200000
