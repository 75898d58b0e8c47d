use Rattle.mm_verdict.proofs.lemmas.verdicts.ItemLemmas.{one_count_at}
use Rattle.mm_verdict.proofs.item_laws.has_one_count_at.Goals as goal

pub returns : goal.returns
returns c = one_count_at c.has_one_count.ensures c.places_have_frames.ensures
