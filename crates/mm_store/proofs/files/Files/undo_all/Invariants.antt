use Rattle.std.proofs.Common.{◌≡◌}
use Rattle.mm_store.specs.Language.Batches.{CanUndoAll, undone_all}
use Rattle.mm_store.proofs.files.Files.undo_all.Given as goal

abbrev pub invariant-loop-undo : goal.invariant-loop-undo
invariant-loop-undo l = record {
  can : CanUndoAll l.undos.items l.self;
  back : undone_all l.undos.items l.self ≡ undone_all l.fn.undos l.fn.self;
}

abbrev pub decreases-loop-undo : goal.decreases-loop-undo
decreases-loop-undo l = goal.left-loop-undo l
