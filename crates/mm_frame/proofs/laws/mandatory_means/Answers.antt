use Rattle.mm_frame.proofs.lemmas.base.OwnLabels.{mandatory_means}
use Rattle.mm_frame.proofs.laws.mandatory_means.Goals as goal

pub returns : goal.returns
returns c = mandatory_means
