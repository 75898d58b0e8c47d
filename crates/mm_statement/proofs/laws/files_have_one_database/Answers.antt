use Rattle.mm_statement.proofs.LocatedLemmas.{one_database}
use Rattle.mm_statement.proofs.laws.files_have_one_database.Goals as goal

pub returns : goal.returns
returns c = one_database c.one_meaning.ensures.words c.edits_keep_units.ensures.keys c.one_expansion.ensures c.items_are_located.ensures.kept
