use Rattle.mm_keep.proofs.CitationLemmas.{one_list_each}
use Rattle.mm_keep.proofs.laws.one_list_each.Goals as goal

pub returns : goal.returns
returns c = one_list_each c.files_have_one_database.ensures c.has_own_labels.ensures
