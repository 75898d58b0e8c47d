use Rattle.mm_frame.proofs.lemmas.scope.Activity.{active_by_blocks}
use Rattle.mm_frame.proofs.laws.active_by_blocks.Goals as goal

pub returns : goal.returns
returns c = active_by_blocks
