use Rattle.mm_proof.specs.mm_frame.Language.{Base.{BaseView}, Answering.{IsBase}}
use Rattle.mm_keep.specs.{Language.{Runs.{AreThose}, Told.{IsAxiom}}, Code.Cited.{IsMarked}}
use Rattle.mm_keep.proofs.citing.marked_axioms.Given as goal

abbrev pub invariant-loop-k : goal.invariant-loop-k
invariant-loop-k l = (view : BaseView) → IsBase view l.base → AreThose (λ k. IsMarked l.marks k × IsAxiom view k) l.k l.numbers.items
