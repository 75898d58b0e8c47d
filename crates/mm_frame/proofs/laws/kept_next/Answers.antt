use Rattle.mm_frame.proofs.lemmas.faults.FoundFaults.{kept_next}
use Rattle.mm_frame.proofs.laws.kept_next.Goals as goal

pub returns : goal.returns
returns c = kept_next
