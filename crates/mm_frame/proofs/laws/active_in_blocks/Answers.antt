use Rattle.mm_frame.proofs.lemmas.base.ActiveItems.{active_in_blocks}
use Rattle.mm_frame.proofs.laws.active_in_blocks.Goals as goal

pub returns : goal.returns
returns c = active_in_blocks
