use Rattle.mm_frame.{specs.{declared.tables.Declared.TheVariants.{Variable}, Code.KeptTables.{float_of}}, proofs.lemmas.scope.KnownLemmas.{DeclaresFirst}}
use Rattle.mm_frame.proofs.tables.Tables.take_variables.Given as goal

abbrev pub invariant-loop-n : goal.invariant-loop-n
invariant-loop-n l = DeclaresFirst l.numbers l.n l.fn.self (λ old. Variable l.number (float_of old)) l.self
