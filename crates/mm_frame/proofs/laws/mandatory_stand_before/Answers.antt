use Rattle.mm_frame.proofs.lemmas.frames.FrameNumbers.{mandatory_are}
use Rattle.mm_frame.proofs.laws.mandatory_stand_before.Goals as goal

pub returns : goal.returns
returns c = mandatory_are
