use Rattle.std.proofs.{Common.{arith}, lemmas.Grind.{common_steps}}
use Rattle.mm_report.proofs.{HavingLemmas.{HavingLaws, has_script_answer as law}, script_laws.has_script_answer.Goals.{After-has_reading}}
use Rattle.mm_report.proofs.script_laws.has_script_answer.Goals as goal

laws : After-has_reading → HavingLaws
laws c = grind (arith, common_steps) steps 200000

pub returns : goal.returns
returns c = law (laws c)
