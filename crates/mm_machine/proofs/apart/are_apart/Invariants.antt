use Rattle.std.proofs.Common.{ℕ, map}
use Rattle.mm_machine.{specs.{Language.CodeLists.{meant_pairs}, Code.PairClause.{ApartAt, HasNumber, InChunk, KnowsApart}}, proofs.lemmas.machine.ApartLemmas.{EachUpTo}}
use Rattle.mm_machine.proofs.apart.are_apart.Given as goal

abbrev pub invariant-loop-n : goal.invariant-loop-n
invariant-loop-n g l = record {
  known : KnowsApart (meant_pairs g.S.Listed.Symbol.means l.active.pairs.now) (map g.S.Symbol.means l.all) l.known;
  apart : EachUpTo (λ w. (m n : ℕ) → InChunk w m → HasNumber l.other n → ApartAt (meant_pairs g.S.Listed.Symbol.means l.active.pairs.now) (map g.S.Symbol.means l.all) m n) l.one l.n;
}
