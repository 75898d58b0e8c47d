use Rattle.std.proofs.Common.{map, take}
use Rattle.mm_store.specs.Language.{Batches.{IsBatchOf, IsSpendable}, EditedKeys.{IsBatchByKeys}, FilesView.{plain}, Undoing.{KeepsKeys}}
use Rattle.mm_text.specs.Language.Asked.{asked}
use Rattle.mm_store.proofs.files.Files.edit_all.Given as goal

abbrev pub invariant-loop-number : goal.invariant-loop-number
invariant-loop-number l = record {
  by_keys : IsBatchByKeys (take l.number (map asked l.fn.edits)) l.fn.self l.self l.undos;
  done : IsBatchOf (take l.number (map asked l.fn.edits)) (plain l.fn.self) (plain l.self);
  keys : KeepsKeys l.fn.self l.self;
  spendable : IsSpendable l.fn.self l.self l.undos;
}
