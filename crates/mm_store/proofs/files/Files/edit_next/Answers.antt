use Rattle.std.proofs.Common.{arith}
use Rattle.mm_store.proofs.lemmas.edits.BatchLemmas.{spendable_more}
use Rattle.mm_store.proofs.files.Files.edit_next.Goals as goal

pub returns-clause-spendable : goal.returns-clause-spendable
returns-clause-spendable c old before = grind (arith, spendable_more old c.args.self.now c.apply.new.self c.args.undos.now c.in-Ok.undo c.stand_once.ensures c.in-Ok.ensures.ok.undoes before) steps 200000
