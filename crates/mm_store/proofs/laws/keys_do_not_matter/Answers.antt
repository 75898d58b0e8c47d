use Rattle.mm_store.proofs.lemmas.expansion.KeylessLemmas.{same_items}
use Rattle.mm_store.proofs.laws.keys_do_not_matter.Goals as goal

pub returns : goal.returns
returns c a b top items others same p q = same_items c.one_meaning.ensures.words c.one_division.ensures.units a b top items others same p q
