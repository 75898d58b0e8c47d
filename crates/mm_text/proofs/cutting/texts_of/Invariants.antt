use Rattle.std.{proofs.Common.{◌≡◌, ◌++◌, length, map}, specs.Vec.Iter.{into_iter_items, into_iter_len}}
use Rattle.mm_text.proofs.cutting.texts_of.Given as goal

abbrev pub invariant-loop-piece : goal.invariant-loop-piece
invariant-loop-piece l = record {
  rest : l.yielded ++ into_iter_items l.piece-iterator ≡ l.fn.pieces.items;
  many : into_iter_len l.piece-iterator ≡ length (into_iter_items l.piece-iterator);
  texts : map (λ text. text.items) l.texts.items ≡ map (λ piece. piece.text) l.yielded;
}
