use Rattle.mm_store.proofs.EditExampleLemmas.{files_are_found, texts_are_added, files_are_bounded, keys_are_texts}
use Rattle.mm_store.proofs.examples.files_are_held_so.Goals as goal

pub returns-clause-found : goal.returns-clause-found
returns-clause-found c = files_are_found

pub returns-clause-added : goal.returns-clause-added
returns-clause-added c = texts_are_added

pub returns-clause-bounded : goal.returns-clause-bounded
returns-clause-bounded c = files_are_bounded

pub returns-clause-keys : goal.returns-clause-keys
returns-clause-keys c = keys_are_texts
