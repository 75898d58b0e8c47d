use Rattle.mm_machine.proofs.lemmas.machine.Running.{runs_reach}
use Rattle.mm_machine.proofs.verdict_laws.machine_reaches.Goals as goal

pub returns : goal.returns
returns c = runs_reach
