use Rattle.mm_machine.proofs.lemmas.machine.Threaded.{counted, threaded}
use Rattle.mm_machine.proofs.run_laws.sure_by_counting.Goals as goal

pub returns : goal.returns
returns c = λ place steps. (counted place steps, threaded place steps)
