use Rattle.mm_machine.proofs.lemmas.machine.Running.{some_count}
use Rattle.mm_machine.proofs.verdict_laws.has_count.Goals as goal

pub returns : goal.returns
returns c = some_count
