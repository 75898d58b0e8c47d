use Rattle.mm_frame.proofs.lemmas.faults.FoundFaults.{found_fault, fault_found}
use Rattle.mm_frame.proofs.laws.fault_is_found.Goals as goal

pub returns : goal.returns
returns c = λ before item w n. (found_fault before item w n, fault_found before item w n)
