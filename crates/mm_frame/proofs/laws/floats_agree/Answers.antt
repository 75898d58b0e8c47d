use Rattle.mm_frame.proofs.lemmas.base.FramedItems.{floats_agree}
use Rattle.mm_frame.proofs.laws.floats_agree.Goals as goal

pub returns : goal.returns
returns c = floats_agree
