use Rattle.mm_verdict.proofs.lemmas.verdicts.ItemLemmas.{one_verdict_at}
use Rattle.mm_verdict.proofs.item_laws.has_one_verdict_at.Goals as goal

pub returns : goal.returns
returns c = one_verdict_at c.has_one_verdict.ensures c.places_have_frames.ensures
