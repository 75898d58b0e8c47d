use Rattle.mm_script.proofs.ScriptLawLemmas.{done}
use Rattle.mm_script.proofs.laws.commands_leave_nothing.Goals as goal

pub returns : goal.returns
returns c = done
