use Rattle.mm_store.proofs.lemmas.edits.EditLawLemmas.{insert_reversed, move_reversed}
use Rattle.mm_store.proofs.laws.edits_reverse.Goals as goal

pub returns-clause-insert : goal.returns-clause-insert
returns-clause-insert c files between name text at is = insert_reversed name text at files between is

pub returns-clause-moved : goal.returns-clause-moved
returns-clause-moved c files between name at to is = move_reversed name at to files between is
