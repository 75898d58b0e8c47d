use Rattle.std.proofs.{Common.{arith}, lemmas.Grind.{common_steps}}
use Rattle.mm_report.proofs.{ScriptAnswerLemmas.{AnswerLaws, answers_begin as law}, script_laws.answers_begin.Goals.{After-one_list_each}}
use Rattle.mm_report.proofs.script_laws.answers_begin.Goals as goal

laws : After-one_list_each → AnswerLaws
laws c = grind (arith, common_steps) steps 200000

pub returns : goal.returns
returns c = law (laws c)
