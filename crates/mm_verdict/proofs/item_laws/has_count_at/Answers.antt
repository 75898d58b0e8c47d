use Rattle.mm_verdict.proofs.lemmas.verdicts.ItemLemmas.{has_count_at}
use Rattle.mm_verdict.proofs.item_laws.has_count_at.Goals as goal

pub returns : goal.returns
returns c = has_count_at c.decodes_surely.ensures c.has_count.ensures c.places_have_frames.ensures c.items_have_labels.ensures.sound c.mandatory_means.ensures c.mandatory_stand_before.ensures
