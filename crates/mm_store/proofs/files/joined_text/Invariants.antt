use Rattle.std.{proofs.Common.{◌≡◌, ◌++◌, map, All, IsSome}, specs.{List.{concat}, VecDeque.Iter.{deque_iter_rest}}}
use Rattle.mm_store.specs.Language.Pieces.{text_under}
use Rattle.std.specs.FinMap as finite
use Rattle.mm_store.proofs.files.joined_text.Given as goal

abbrev pub invariant-loop-key : goal.invariant-loop-key
invariant-loop-key l = record {
  text : l.text.items ++ concat (map (text_under l.pieces) (deque_iter_rest l.key-iterator)) ≡ concat (map (text_under l.pieces) l.file.keys.items);
  there : All (λ key. IsSome (finite.get l.pieces key)) (deque_iter_rest l.key-iterator);
}
