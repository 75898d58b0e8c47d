use Rattle.mm_store.proofs.lemmas.expansion.ExpansionLemmas.{expansion_one}
use Rattle.mm_store.proofs.laws.one_expansion.Goals as goal

pub returns : goal.returns
returns c = expansion_one c.one_meaning.ensures.words c.one_division.ensures.units
