use Rattle.mm_frame.proofs.lemmas.base.SaidLabels.{item_label, said_labelled}
use Rattle.mm_frame.proofs.laws.items_have_labels.Goals as goal

pub returns-clause-sound : goal.returns-clause-sound
returns-clause-sound c = item_label

pub returns-clause-said : goal.returns-clause-said
returns-clause-said c = said_labelled
