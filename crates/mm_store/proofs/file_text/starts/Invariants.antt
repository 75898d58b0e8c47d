use Rattle.std.{proofs.Common.{◌≡◌, ℕ, ◌<◌, length, map, take, get_or}, specs.List.{concat}}
use Rattle.mm_store.specs.{declared.start.Start.{Start}, Code.Lines.{IsStart}}
use Rattle.mm_store.proofs.file_text.starts.Given as goal

abbrev pub invariant-loop-piece : goal.invariant-loop-piece
invariant-loop-piece l = record {
  start : IsStart (concat (take l.piece-index (map (λ piece. piece.text) l.pieces))) l.start;
  many : length l.starts.items ≡ l.piece-index;
  each : (k : ℕ) (d : Start) → k < l.piece-index → IsStart (concat (take k (map (λ piece. piece.text) l.pieces))) (get_or l.starts.items k d);
}
