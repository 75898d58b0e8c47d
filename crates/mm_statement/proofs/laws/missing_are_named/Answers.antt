use Rattle.mm_statement.proofs.NameLemmas.{missing_named}
use Rattle.mm_statement.proofs.laws.missing_are_named.Goals as goal

pub returns : goal.returns
returns c = missing_named
