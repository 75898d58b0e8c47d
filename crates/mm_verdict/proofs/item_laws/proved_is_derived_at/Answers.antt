use Rattle.mm_verdict.proofs.lemmas.verdicts.ItemLemmas.{proved_at}
use Rattle.mm_verdict.proofs.item_laws.proved_is_derived_at.Goals as goal

pub returns : goal.returns
returns c = proved_at c.proved_is_derived.ensures
