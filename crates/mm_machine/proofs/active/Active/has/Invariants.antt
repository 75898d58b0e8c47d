use Rattle.mm_machine.{specs.{Code.PairClause.{IsPair}, Language.CodeLists.{meant_pairs}}, proofs.lemmas.machine.ApartLemmas.{EachUpTo}}
use Rattle.mm_machine.proofs.active.Active.has.Given as goal

abbrev pub invariant-loop-place : goal.invariant-loop-place
invariant-loop-place g l = EachUpTo (λ p. IsPair p (g.S.Symbol.means l.x) (g.S.Symbol.means l.y) → ⊥) (meant_pairs g.S.Listed.Symbol.means l.self.pairs.now) l.place
