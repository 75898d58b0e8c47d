use Rattle.mmkeep.proofs.GivenLemmas.{items_lacked, names_lacked}
use Rattle.mmkeep.proofs.laws.missing_are_lacked.Goals as goal

pub returns-clause-names : goal.returns-clause-names
returns-clause-names c = names_lacked

pub returns-clause-items : goal.returns-clause-items
returns-clause-items c holds top files loaded = items_lacked holds top files loaded c.missing_are_named.ensures
