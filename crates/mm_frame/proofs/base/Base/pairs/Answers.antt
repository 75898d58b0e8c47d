use Rattle.std.proofs.Common.{Some, None, ap, sym, subst, All}
use Rattle.mm_frame.{specs.Language.{Base.{before}, Framing.{active_pairs}}, proofs.lemmas.base.AnswerLemmas.{active_in}}
use Rattle.mm_machine.specs.Language.{Frame.{AreSamePairs}, NumberedSymbols.{kept_pairs, AreInOrder, IsPairNumbered}}
use Rattle.mm_frame.proofs.base.Base.pairs.Goals as goal

pub returns-in-Some : goal.returns-in-Some
returns-in-Some c = record {
  some = λ base is. let parts = c.self.inside.parts in
      (active_in is.0 base c.args.self.now parts.pair_lists parts.pair_numbers (ap (λ a. a.actives) c.self.view_is) is.1 c.args.i c.at.result (Some c.in-Some.k) c.at.ensures c.in-Some.is).some;
  pairs = λ names base is. let parts = c.self.inside.parts in
      let told = active_in names base c.args.self.now parts.pair_lists parts.pair_numbers (ap (λ a. a.actives) c.self.view_is) is c.args.i c.at.result (Some c.in-Some.k) c.at.ensures c.in-Some.is in
      subst (λ w. AreSamePairs (kept_pairs names w) (active_pairs (before base c.args.i))) (sym c.list.ensures) told.pairs.pairs;
  numbered = λ names base is. let parts = c.self.inside.parts in
      let told = active_in names base c.args.self.now parts.pair_lists parts.pair_numbers (ap (λ a. a.actives) c.self.view_is) is c.args.i c.at.result (Some c.in-Some.k) c.at.ensures c.in-Some.is in
      subst (All (IsPairNumbered names)) (sym c.list.ensures) told.pairs.numbered;
  order = λ base is. let parts = c.self.inside.parts in
      let told = active_in is.0 base c.args.self.now parts.pair_lists parts.pair_numbers (ap (λ a. a.actives) c.self.view_is) is.1 c.args.i c.at.result (Some c.in-Some.k) c.at.ensures c.in-Some.is in
      subst AreInOrder (sym c.list.ensures) told.order;
}

pub returns-in-None-clause-some : goal.returns-in-None-clause-some
returns-in-None-clause-some c base is =
    let parts = c.self.inside.parts in
    (active_in is.0 base c.args.self.now parts.pair_lists parts.pair_numbers (ap (λ a. a.actives) c.self.view_is) is.1 c.args.i c.at.result None c.at.ensures c.in-None.is).some
