use Rattle.std.proofs.Common.{◌≡◌, length, map}
use Rattle.mm_store.specs.{Language.Pieces.{text_under}, Code.Lines.{AreStartsTo}}
use Rattle.mm_store.proofs.file_text.FileText.restart.Given as goal

abbrev pub invariant-loop-piece : goal.invariant-loop-piece
invariant-loop-piece l = record {
  starts : AreStartsTo l.piece (map (text_under l.pieces) l.initial.self.keys.items) l.self.starts.items;
  many : length l.self.starts.items ≡ length l.initial.self.starts.items;
  keys : l.self.keys ≡ l.initial.self.keys;
  tail : l.self.tail ≡ l.initial.self.tail;
  deleted : l.self.deleted ≡ l.initial.self.deleted;
}
