use Rattle.mm_frame.specs.{Language.Base.{hypothesis_at}, declared.base.Base.{Base}}
use Rattle.mm_proof.{specs.Code.KeptMarks.{OfBases, AreHypothesisMarks}, proofs.KeptMarkLemmas.{AreSameTo}}
use Rattle.mm_proof.proofs.mark.are_marked.Given as goal

abbrev pub invariant-loop-k : goal.invariant-loop-k
invariant-loop-k l = (old new : Base) → AreHypothesisMarks old new l.marks → OfBases old new (λ base copy. AreSameTo (hypothesis_at base) (hypothesis_at copy) l.mine l.yours l.k)
