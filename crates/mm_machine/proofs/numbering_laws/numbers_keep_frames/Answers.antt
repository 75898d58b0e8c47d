use Rattle.mm_machine.proofs.lemmas.renaming.RenamedFrames.{frame_by_number}
use Rattle.mm_machine.proofs.numbering_laws.numbers_keep_frames.Goals as goal

pub returns : goal.returns
returns c = frame_by_number
