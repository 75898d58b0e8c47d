use Rattle.mm_frame.proofs.lemmas.base.FramedItems.{has_frame, has_pairs}
use Rattle.mm_frame.proofs.laws.assertions_have_frames.Goals as goal

pub returns-clause-floats : goal.returns-clause-floats
returns-clause-floats c = has_frame

pub returns-clause-pairs : goal.returns-clause-pairs
returns-clause-pairs c base i v w framed mine yours = has_pairs base i framed v w mine yours
