use Rattle.mm_frame.proofs.lemmas.frames.Frames.{has_frames}
use Rattle.mm_frame.proofs.laws.places_have_frames.Goals as goal

pub returns : goal.returns
returns c = has_frames
