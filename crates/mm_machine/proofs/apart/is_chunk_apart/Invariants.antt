use Rattle.std.proofs.Common.{ℕ, ◌+◌, ◌*◌, map}
use Rattle.mm_machine.{specs.{Language.CodeLists.{meant_pairs}, Code.PairClause.{ApartAt, HasNumber, KnowsApart}}, proofs.lemmas.machine.SetLemmas.{BitsDone}}
use Rattle.mm_machine.proofs.apart.is_chunk_apart.Given as goal

abbrev pub invariant-loop-left : goal.invariant-loop-left
invariant-loop-left g l = record {
  known : KnowsApart (meant_pairs g.S.Listed.Symbol.means l.active.pairs.now) (map g.S.Symbol.means l.all) l.known;
  bits : BitsDone l.chunk.bits l.left
      (λ k. (n : ℕ) → HasNumber l.set n → ApartAt (meant_pairs g.S.Listed.Symbol.means l.active.pairs.now) (map g.S.Symbol.means l.all) (64 * l.chunk.at + k) n);
}

abbrev pub decreases-loop-left : goal.decreases-loop-left
decreases-loop-left g l = l.left
