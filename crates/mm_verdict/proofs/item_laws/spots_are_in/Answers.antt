use Rattle.mm_verdict.proofs.lemmas.decoding.SpotLemmas.{spots_at}
use Rattle.mm_verdict.proofs.item_laws.spots_are_in.Goals as goal

pub returns : goal.returns
returns c = spots_at
