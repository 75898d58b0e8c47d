use Rattle.std.proofs.Common.{◌≡◌, ◌+◌, ℕ, List, length}
use Rattle.mm_frame.specs.Language.{Base.{BaseView}, Answering.{IsBase}}
use Rattle.mm_verdict.specs.Code.{Labels.{BeginsTable, Lists}, Left.{AreLeft}}
use Rattle.mm_verdict.proofs.labels.read_list.Given as goal

abbrev pub invariant-loop-word : goal.invariant-loop-word
invariant-loop-word l = record {
  count : l.n + length l.words ≡ 1 + length l.initial.words;
  left : (all : List (List ℕ)) → AreLeft all l.initial.words 1 → AreLeft all l.words l.n;
  lists : (view : BaseView) (mandatory all : List (List ℕ)) → IsBase view l.base → BeginsTable view l.i mandatory all l.initial.words l.initial.labels.items → Lists view l.i mandatory all l.n l.labels.items;
}

abbrev pub decreases-loop-word : goal.decreases-loop-word
decreases-loop-word l = length l.words
