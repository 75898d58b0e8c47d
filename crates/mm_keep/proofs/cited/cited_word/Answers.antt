use Rattle.std.proofs.{lemmas.Grind.{common_steps}, Common.{arith}}
use Rattle.mm_keep.proofs.CitedWords.{drop_more, get_behind, passed_next}
use Rattle.mm_keep.proofs.cited.cited_word.Goals as goal

pub returns-clause-word : goal.returns-clause-word
returns-clause-word c all e = grind (arith, common_steps, get_behind) steps 200000

pub returns-clause-left : goal.returns-clause-left
returns-clause-left c all e = grind (arith, common_steps, drop_more, passed_next) steps 200000
