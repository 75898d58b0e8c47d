use Rattle.mm_machine.proofs.lemmas.renaming.RenamedFrames.{pairs_by_number}
use Rattle.mm_machine.proofs.numbering_laws.numbers_keep_pairs.Goals as goal

pub returns : goal.returns
returns c = pairs_by_number
