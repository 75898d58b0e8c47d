use Rattle.std.proofs.Common.{◌≡◌, length}
use Rattle.mm_proof.specs.Code.{InStep.{IsStepAt}, KeptMarks.{AreCompared, OfBases, AreItemMarks, AreHypothesisMarks, kept_marks}}
use Rattle.mm_proof.proofs.marks.Marks.build.Given as goal

abbrev pub invariant-loop-j : goal.invariant-loop-j
invariant-loop-j l = record {
  compared : AreCompared l.old l.new l.compared;
  step : IsStepAt l.old l.new l.changed.items l.j l.step;
  count : length l.marks.items ≡ l.j;
  kept : AreHypothesisMarks l.old l.new l.marks.items;
  marks : OfBases l.old l.new (λ base copy. AreItemMarks base copy l.j (record { items = kept_marks l.marks.items; changed = l.changed.items }));
}
