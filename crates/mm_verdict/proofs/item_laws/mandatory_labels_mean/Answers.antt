use Rattle.mm_verdict.proofs.lemmas.verdicts.ItemLemmas.{labels_mean}
use Rattle.mm_verdict.proofs.item_laws.mandatory_labels_mean.Goals as goal

pub returns : goal.returns
returns c = labels_mean c.items_have_labels.ensures.sound c.mandatory_means.ensures c.mandatory_stand_before.ensures
