use Rattle.mm_machine.proofs.lemmas.machine.Running.{same_fault}
use Rattle.mm_machine.proofs.verdict_laws.has_one_step_fault.Goals as goal

pub returns : goal.returns
returns c = same_fault
