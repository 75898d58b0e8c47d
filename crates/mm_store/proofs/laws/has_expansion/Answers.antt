use Rattle.mm_store.{specs.Language.FilesView.{files_in}, proofs.lemmas.{expansion.HavingLemmas.{expanded}, edits.HoldingLemmas.{units_held}}}
use Rattle.mm_store.proofs.laws.has_expansion.Goals as goal

pub returns : goal.returns
returns c files top hold some = expanded (files_in files) (units_held files hold) top some
