use Rattle.std.proofs.{Common.{arith}, lemmas.Grind.{common_steps}}
use Rattle.mm_store.proofs.lemmas.edits.UndoLemmas.{back_inserted, back_replaced, exchanged_small, parked_here, parked_once}
use Rattle.mm_store.proofs.files.Files.take_back.Goals as goal

pub drop_parked-requires : goal.drop_parked-requires
drop_parked-requires c = grind (arith, common_steps, parked_once) steps 200000

pub exchange-key-requires-clause-within : goal.exchange-key-requires-clause-within
exchange-key-requires-clause-within c = grind (arith, common_steps, exchanged_small c.args.self.now c.undo.inside.file c.in-Replaced.at c.stand_once.ensures c.in-Replaced.old) steps 200000

pub drop_parked-requires-in-Replaced : goal.drop_parked-requires-in-Replaced
drop_parked-requires-in-Replaced c = grind (arith, common_steps, parked_here c.args.self.now c.undo.inside.file c.in-Replaced.at c.stand_once.ensures c.in-Replaced.old) steps 200000

pub returns-in-Inserted : goal.returns-in-Inserted
returns-in-Inserted c = grind (arith, common_steps, back_inserted c.args.self.now c.undo.inside.file c.in-Inserted.at c.stand_once.ensures) steps 200000

pub returns-in-Replaced : goal.returns-in-Replaced
returns-in-Replaced c = grind (arith, common_steps, back_replaced c.args.self.now c.undo.inside.file c.in-Replaced.at c.stand_once.ensures c.in-Replaced.old) steps 200000
