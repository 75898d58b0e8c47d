use Rattle.std.proofs.{lemmas.Grind.{common_steps}, Common.{arith}}
use Rattle.mm_frame.proofs.lemmas.{lists.{Members.{in_contains}, Rising.{among_in}}, frames.Frames.{in_at}, pairs.PairListLemmas.{symbol_decides}}
use Rattle.mm_frame.proofs.essential.EssentialVariables.has.Goals as goal

pub returns-then-eq : goal.returns-then-eq
returns-then-eq c rising t = grind (arith, common_steps, among_in, in_at, in_contains, symbol_decides) steps 200000
