use Rattle.mm_keep.specs.{Language.{Citations.{CitesItem}, Runs.{AreThose}, Sessions.{IsAssertion}}, Code.Cited.{OfChecks}}
use Rattle.mm_keep.proofs.citing.users_of.Given as goal

abbrev pub invariant-loop-j : goal.invariant-loop-j
invariant-loop-j l = OfChecks l.files l.base l.checked (λ view. IsAssertion view l.label l.i → AreThose (λ k. CitesItem view k l.i) l.j l.numbers.items)
