use Rattle.mm_machine.{specs.Code.PairClause.{SomeShared, AtSlots}, proofs.lemmas.machine.ApartLemmas.{EachUpTo}}
use Rattle.mm_machine.proofs.pairs.any_share.Given as goal

abbrev pub invariant-loop-n : goal.invariant-loop-n
invariant-loop-n l = EachUpTo (AtSlots (λ xs ys. SomeShared xs ys → ⊥) l.chunks l.spans) l.pairs l.n
