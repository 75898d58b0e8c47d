use Rattle.mm_store.proofs.lemmas.expansion.AppendLemmas.{files_begin, items_begin}
use Rattle.mm_store.proofs.laws.appending_keeps_items.Goals as goal

pub returns-clause-items : goal.returns-clause-items
returns-clause-items c = items_begin c.one_meaning.ensures.words c.one_division.ensures.units

pub returns-clause-files : goal.returns-clause-files
returns-clause-files c = files_begin
