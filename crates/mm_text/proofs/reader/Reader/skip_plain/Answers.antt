use Rattle.std.proofs.{Common.{arith}, lemmas.{Grind.{common_steps}, List.{take_rest}}}
use Rattle.mm_text.proofs.SkipLemmas.{skips_plain}
use Rattle.mm_text.proofs.reader.Reader.skip_plain.Goals as goal

pub returns-clause-skips : goal.returns-clause-skips
returns-clause-skips c = grind (arith, common_steps, skips_plain, take_rest) steps 200000
