use Rattle.std.proofs.Common.{◌≡◌}
use Rattle.mm_store.{specs.Language.Batches.{CanSettleAll, settled_all}, proofs.lemmas.edits.SettleLemmas.{Stays}}
use Rattle.mm_store.proofs.files.Files.settle_all.Given as goal

abbrev pub invariant-loop-spent : goal.invariant-loop-spent
invariant-loop-spent l = record {
  can : CanSettleAll l.undos.items l.self;
  left : settled_all l.undos.items l.self ≡ settled_all l.fn.undos l.fn.self;
  stays : Stays l.fn.self l.self;
}

abbrev pub decreases-loop-spent : goal.decreases-loop-spent
decreases-loop-spent l = goal.left-loop-spent l
