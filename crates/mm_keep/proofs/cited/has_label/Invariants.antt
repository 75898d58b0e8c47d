use Rattle.std.proofs.Common.{◌≡◌, drop}
use Rattle.mm_keep.specs.Code.Cited.{IsAmongCited, passed_words}
use Rattle.mm_keep.proofs.cited.has_label.Given as goal

abbrev pub invariant-loop-x : goal.invariant-loop-x
invariant-loop-x l = record {
  left : l.words ≡ drop (passed_words l.check.cites l.x) l.initial.words;
  none : IsAmongCited l.initial.words l.check.cites l.x l.label → ⊥;
}
