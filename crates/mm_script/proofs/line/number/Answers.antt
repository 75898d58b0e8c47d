use Rattle.std.proofs.{Common.{arith}, lemmas.Grind.{common_steps}}
use Rattle.mm_script.proofs.LineLemmas.{read_so, utf8_so, unequal}
use Rattle.mm_script.proofs.line.number.Goals as goal

pub returns-in_default-clause-none : goal.returns-in_default-clause-none
returns-in_default-clause-none c = λ none n h is. c.in_default.ensures.cases.0 (utf8_so n c.args.word.now h is)

pub returns-in_default-parse-clause-none : goal.returns-in_default-parse-clause-none
returns-in_default-parse-clause-none c = λ none n h is. c.in_default-parse.not-Ok n (read_so n c.args.word.now c.in-Ok.text.now c.parse.result h is c.in-Ok.ensures.cases.0 c.parse.ensures.value.0)

pub returns-else-eq-clause-none : goal.returns-else-eq-clause-none
returns-else-eq-clause-none c = grind (arith, common_steps, read_so, unequal) steps 200000
