use Rattle.std.proofs.Common.{map}
use Rattle.mm_machine.{specs.{Language.CodeLists.{meant_pairs}, Code.PairClause.{ApartFrom, KnowsApart}}, proofs.lemmas.machine.ApartLemmas.{EachUpTo}}
use Rattle.mm_machine.proofs.apart.is_apart_from.Given as goal

abbrev pub invariant-loop-n : goal.invariant-loop-n
invariant-loop-n g l = record {
  known : KnowsApart (meant_pairs g.S.Listed.Symbol.means l.active.pairs.now) (map g.S.Symbol.means l.all) l.known;
  apart : EachUpTo (ApartFrom (meant_pairs g.S.Listed.Symbol.means l.active.pairs.now) (map g.S.Symbol.means l.all) l.variable) l.set l.n;
}
