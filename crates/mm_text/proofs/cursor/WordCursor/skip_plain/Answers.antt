use Rattle.std.proofs.{Common.{arith}, lemmas.Grind.{common_steps}}
use Rattle.mm_text.proofs.CursorLemmas.{plain_passed}
use Rattle.mm_text.proofs.cursor.WordCursor.skip_plain.Goals as goal

pub invariant_of-self : goal.invariant_of-self
invariant_of-self c = grind (arith, plain_passed c.self.inside.reader.text.now c.self.inside.reader.from c.skip_plain.new.self.from c.self.invariant c.skip_plain.ensures.skips) steps 200000

pub returns-clause-skips : goal.returns-clause-skips
returns-clause-skips c = grind (arith, common_steps, plain_passed) steps 200000
