use Rattle.std.{proofs.Common.{◌≡◌, ℕ, length}, specs.List.{list_any}}
use Rattle.mm_frame.specs.Language.{Base.{BaseView}, Answering.{IsBase}}
use Rattle.mm_verdict.specs.Code.{Labels.{Normal}, Left.{AreLeft}, UsedLabels.{names_label}, Cited.{marked_at}}
use Rattle.mm_verdict.proofs.reading.decode_normal.Given as goal

abbrev pub invariant-loop-word : goal.invariant-loop-word
invariant-loop-word l = record {
  left : AreLeft l.proof l.words l.n;
  table : length l.labels.items ≡ l.n;
  count : length l.used.items ≡ l.n;
  marks : (k : ℕ) → marked_at l.used.items k ≡ list_any (names_label k) l.steps.items;
  normal : (view : BaseView) → IsBase view l.base → Normal view l.i l.proof l.n l.labels.items l.steps.items;
}

abbrev pub decreases-loop-word : goal.decreases-loop-word
decreases-loop-word l = length l.words
