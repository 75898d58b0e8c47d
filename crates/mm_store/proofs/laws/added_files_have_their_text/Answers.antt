use Rattle.std.proofs.Common.{rules}
use Rattle.mm_store.proofs.lemmas.files.NamedLemmas.{added_others, added_text, one_added}
use Rattle.mm_store.proofs.laws.added_files_have_their_text.Goals as goal

pub returns : goal.returns
returns c = search (rules, one_added c.one_cut.ensures.cut, added_text, added_others) steps 500000
