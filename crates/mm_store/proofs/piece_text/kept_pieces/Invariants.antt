use Rattle.std.{proofs.Common.{◌≡◌, ◌++◌, All, length, map}, specs.Vec.Iter.{into_iter_items, into_iter_len}}
use Rattle.mm_store.specs.Code.Inside.{IsPieceKept}
use Rattle.mm_store.proofs.piece_text.kept_pieces.Given as goal

abbrev pub invariant-loop-piece : goal.invariant-loop-piece
invariant-loop-piece l = record {
  rest : l.yielded ++ into_iter_items l.piece-iterator ≡ l.fn.pieces.items;
  many : into_iter_len l.piece-iterator ≡ length (into_iter_items l.piece-iterator);
  texts : map (λ piece. piece.text) l.kept.items ≡ map (λ piece. piece.text) l.yielded;
  each : All IsPieceKept l.kept.items;
}
