use Rattle.mm_store.proofs.lemmas.edits.HoldingLemmas.{edits_keep, keys_given}
use Rattle.mm_store.proofs.laws.edits_keep_units.Goals as goal

pub returns-clause-units : goal.returns-clause-units
returns-clause-units c = edits_keep c.one_unit_of_cut.ensures.unit

pub returns-clause-keys : goal.returns-clause-keys
returns-clause-keys c = keys_given
