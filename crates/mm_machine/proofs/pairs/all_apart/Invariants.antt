use Rattle.std.proofs.Common.{map}
use Rattle.mm_machine.{specs.{Language.CodeLists.{meant_pairs}, Code.PairClause.{EachApart, AtSlots, KnowsApart}}, proofs.lemmas.machine.ApartLemmas.{EachUpTo}}
use Rattle.mm_machine.proofs.pairs.all_apart.Given as goal

abbrev pub invariant-loop-n : goal.invariant-loop-n
invariant-loop-n g l = record {
  known : KnowsApart (meant_pairs g.S.Listed.Symbol.means l.active.pairs.now) (map g.S.Symbol.means l.all) l.known;
  apart : EachUpTo (AtSlots (EachApart (meant_pairs g.S.Listed.Symbol.means l.active.pairs.now) (map g.S.Symbol.means l.all)) l.chunks l.spans) l.pairs l.n;
}
