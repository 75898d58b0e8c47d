use Rattle.mm_verdict.proofs.lemmas.base.BaseLemmas.{labels_are_own}
use Rattle.mm_verdict.proofs.decoding_laws.labels_are_own.Goals as goal

pub returns : goal.returns
returns c = labels_are_own c.has_own_labels.ensures c.items_have_labels.ensures.sound
