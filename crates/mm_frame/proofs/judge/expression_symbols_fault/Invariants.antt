use Rattle.std.proofs.Common.{ℕ, List}
use Rattle.mm_frame.proofs.lemmas.faults.FaultLemmas.{Passes}
use Rattle.mm_frame.proofs.judge.expression_symbols_fault.Given as goal

abbrev pub invariant-loop-n : goal.invariant-loop-n
invariant-loop-n l = (all : List (List ℕ)) → Passes all l.scope l.statement l.numbers l.n
