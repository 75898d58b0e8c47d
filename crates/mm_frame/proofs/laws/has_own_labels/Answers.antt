use Rattle.mm_frame.proofs.lemmas.base.OwnLabels.{own_label}
use Rattle.mm_frame.proofs.laws.has_own_labels.Goals as goal

pub returns : goal.returns
returns c = own_label
