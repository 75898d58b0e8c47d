use Rattle.mm_statement.proofs.LocatedLemmas.{database_there}
use Rattle.mm_statement.proofs.laws.databases_are_there.Goals as goal

pub returns : goal.returns
returns c = database_there c.edits_keep_units.ensures.keys c.has_expansion.ensures (c.items_stand.ensures.read, c.items_stand.ensures.stand) c.items_are_located.ensures.located
