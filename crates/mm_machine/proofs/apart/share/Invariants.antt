use Rattle.std.proofs.Common.{ℕ}
use Rattle.mm_machine.{specs.Code.PairClause.{InChunk, HasNumber}, proofs.lemmas.machine.ApartLemmas.{EachUpTo}}
use Rattle.mm_machine.proofs.apart.share.Given as goal

abbrev pub invariant-loop-n : goal.invariant-loop-n
invariant-loop-n l = EachUpTo (λ w. (n : ℕ) → InChunk w n → HasNumber l.other n → ⊥) l.one l.n
