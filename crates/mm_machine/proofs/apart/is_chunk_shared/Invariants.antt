use Rattle.std.proofs.Common.{ℕ}
use Rattle.mm_machine.{specs.Code.PairClause.{InChunk}, proofs.lemmas.machine.ApartLemmas.{EachUpTo}}
use Rattle.mm_machine.proofs.apart.is_chunk_shared.Given as goal

abbrev pub invariant-loop-n : goal.invariant-loop-n
invariant-loop-n l = EachUpTo (λ w. (n : ℕ) → InChunk l.chunk n → InChunk w n → ⊥) l.set l.n
