use Rattle.mm_machine.proofs.lemmas.machine.Running.{one_count}
use Rattle.mm_machine.proofs.verdict_laws.has_one_count.Goals as goal

pub returns : goal.returns
returns c = one_count
