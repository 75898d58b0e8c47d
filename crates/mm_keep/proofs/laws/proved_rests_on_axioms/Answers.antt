use Rattle.mm_keep.proofs.RestLemmas.{rests_on_axioms}
use Rattle.mm_keep.proofs.laws.proved_rests_on_axioms.Goals as goal

pub returns : goal.returns
returns c = rests_on_axioms c.proved_is_derived_at.ensures
