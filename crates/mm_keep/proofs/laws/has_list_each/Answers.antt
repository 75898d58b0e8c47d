use Rattle.mm_keep.proofs.HavingLemmas.{labels_decided, list_each}
use Rattle.mm_keep.proofs.laws.has_list_each.Goals as goal

pub returns-clause-decided : goal.returns-clause-decided
returns-clause-decided c = labels_decided c.files_have_one_database.ensures

pub returns-clause-lists : goal.returns-clause-lists
returns-clause-lists c =
    list_each c.edits_keep_units.ensures.keys c.items_are_located.ensures.kept c.items_have_labels.ensures.said c.cites_tell.ensures.each c.cites_tell.ensures.tell c.has_own_labels.ensures
