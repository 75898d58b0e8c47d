use Rattle.mm_frame.{specs.declared.tables.Declared.TheVariants.{Constant}, proofs.lemmas.scope.KnownLemmas.{DeclaresFirst}}
use Rattle.mm_frame.proofs.tables.Tables.take_constants.Given as goal

abbrev pub invariant-loop-n : goal.invariant-loop-n
invariant-loop-n l = DeclaresFirst l.numbers l.n l.fn.self (λ _. Constant) l.self
