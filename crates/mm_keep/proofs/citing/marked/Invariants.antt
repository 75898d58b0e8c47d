use Rattle.mm_keep.specs.{Language.Runs.{AreThose}, Code.Cited.{IsMarked}}
use Rattle.mm_keep.proofs.citing.marked.Given as goal

abbrev pub invariant-loop-k : goal.invariant-loop-k
invariant-loop-k l = AreThose (IsMarked l.marks) l.k l.numbers.items
