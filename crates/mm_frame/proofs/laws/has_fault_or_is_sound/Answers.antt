use Rattle.mm_frame.proofs.lemmas.faults.FoundFaults.{fault_cases}
use Rattle.mm_frame.proofs.laws.has_fault_or_is_sound.Goals as goal

pub returns : goal.returns
returns c = fault_cases
