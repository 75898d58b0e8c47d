use Rattle.std.proofs.Common.{◌≡◌, drop}
use Rattle.mm_proof.specs.mm_frame.Language.{Base.{BaseView}, Answering.{IsBase}}
use Rattle.mm_keep.specs.Code.Cited.{HasLabelAmong, MarksMore, passed_words}
use Rattle.mm_keep.proofs.cited.mark_words.Given as goal

abbrev pub invariant-loop-x : goal.invariant-loop-x
invariant-loop-x l = record {
  left : l.words ≡ drop (passed_words l.check.cites l.x) l.initial.words;
  marks : (view : BaseView) → IsBase view l.base → MarksMore (HasLabelAmong view l.initial.words l.check.cites l.x) l.initial.marks l.marks;
}
