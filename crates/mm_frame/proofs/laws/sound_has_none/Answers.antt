use Rattle.mm_frame.proofs.lemmas.faults.FoundFaults.{no_fault_sound, sound_found}
use Rattle.mm_frame.proofs.laws.sound_has_none.Goals as goal

pub returns : goal.returns
returns c = λ before item. (no_fault_sound before item, sound_found before item)
