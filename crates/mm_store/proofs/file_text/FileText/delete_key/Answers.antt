use Rattle.std.proofs.{Common.{rules}, lemmas.List.Edits.{length-remove}}
use Rattle.mm_store.proofs.lemmas.places.StartLemmas.{known_same, take_remove}
use Rattle.mm_store.proofs.file_text.FileText.delete_key.Goals as goal

pub returns-clause-keys : goal.returns-clause-keys
returns-clause-keys c = search (rules, known_same, length-remove, take_remove) steps 200000
