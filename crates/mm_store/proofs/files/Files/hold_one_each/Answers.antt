use Rattle.mm_store.proofs.lemmas.edits.HoldingLemmas.{units_each}
use Rattle.mm_store.proofs.files.Files.hold_one_each.Goals as goal

pub returns : goal.returns
returns c = units_each c.args.self.now c.hold_units.ensures
