use Rattle.std.proofs.{lemmas.Grind.{common_steps}, Common.{subst, arith}}
use Rattle.mm_store.{specs.Language.Batches.{CanUndoAll}, proofs.lemmas.edits.BatchLemmas.{undo_last, undo_others, undone_last}}
use Rattle.mm_store.proofs.files.Files.undo_all.Goals as goal

pub take_back-requires : goal.take_back-requires
take_back-requires c = undo_last c.pop.new.self.items c.in-Some.undo c.loop-undo.self (subst (λ undos. CanUndoAll undos c.loop-undo.self) c.in-Some.ensures.items c.loop-undo.invariant.can)

pub loop-undo-preserved : goal.loop-undo-preserved
loop-undo-preserved c = grind (arith, common_steps, undone_last c.pop.new.self.items c.in-Some.undo c.loop-undo.self, undo_others) steps 200000
