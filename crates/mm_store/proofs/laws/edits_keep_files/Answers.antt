use Rattle.std.proofs.Common.{rules}
use Rattle.mm_store.proofs.lemmas.{edits.EditLawLemmas.{names_kept, number_kept}, files.NamedLemmas.{edited_kept, other_kept}}
use Rattle.mm_store.proofs.laws.edits_keep_files.Goals as goal

pub returns : goal.returns
returns c = search (rules, names_kept, number_kept, other_kept, edited_kept) steps 500000
