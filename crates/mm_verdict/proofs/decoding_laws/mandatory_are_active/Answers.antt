use Rattle.mm_verdict.proofs.lemmas.base.BaseLemmas.{mandatory_are_active}
use Rattle.mm_verdict.proofs.decoding_laws.mandatory_are_active.Goals as goal

pub returns : goal.returns
returns c = mandatory_are_active c.items_have_labels.ensures.sound c.mandatory_means.ensures c.mandatory_stand_before.ensures
