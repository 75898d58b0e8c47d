use Rattle.mm_machine.proofs.lemmas.renaming.RenamedFrames.{frames_by_number}
use Rattle.mm_machine.proofs.numbering_laws.numbers_keep_places.Goals as goal

pub returns : goal.returns
returns c = frames_by_number
