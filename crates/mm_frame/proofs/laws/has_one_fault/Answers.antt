use Rattle.mm_frame.proofs.lemmas.faults.FoundFaults.{one_fault}
use Rattle.mm_frame.proofs.laws.has_one_fault.Goals as goal

pub returns : goal.returns
returns c = one_fault
