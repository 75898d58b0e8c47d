use Rattle.std.{proofs.Common.{◌+◌, ◌*◌, map, bit_and, w64}, specs.Int.{bit_not}}
use Rattle.mm_machine.{specs.{Language.CodeLists.{meant_pairs}, Code.PairClause.{ApartAt}}, proofs.lemmas.machine.SetLemmas.{BitsDone}}
use Rattle.mm_machine.proofs.apart.is_apart_from_chunk.Given as goal

abbrev pub invariant-loop-left : goal.invariant-loop-left
invariant-loop-left g l = BitsDone (bit_and l.chunk.bits (bit_not w64 l.bits)) l.left
    (λ k. ApartAt (meant_pairs g.S.Listed.Symbol.means l.active.pairs.now) (map g.S.Symbol.means l.all) l.variable (64 * l.chunk.at + k))

abbrev pub decreases-loop-left : goal.decreases-loop-left
decreases-loop-left g l = l.left
