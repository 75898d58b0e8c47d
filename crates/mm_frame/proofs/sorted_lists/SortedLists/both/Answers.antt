use Rattle.std.proofs.Common.{All, ◌++◌, ◌∙◌, subst}
use Rattle.mm_frame.{specs.Code.KeptSortedLists.{HasSame, list_at}, proofs.lemmas.pairs.{PairOrderLemmas.{IsLowFirst}, SortedLemmas.{has_both}}}
use Rattle.mm_machine.specs.Language.NumberedSymbols.{AreInOrder}
use Rattle.mm_frame.proofs.sorted_lists.SortedLists.both.Goals as goal

pub returns : goal.returns
returns c =
    let lists = c.args.self.now in
    let both = c.in_order.result.items in
    let listed = c.in_ok-extend_from_slice.ensures.items ∙ (λ i. (c.in_ok-both.ensures.items ∙ c.at.ensures) i ++ c.at-2.ensures i) in
    has_both (list_at lists c.args.first) (list_at lists c.args.second) both (subst (λ w. HasSame w both) listed c.in_order.ensures.same)
    (subst (λ w. All IsLowFirst w → AreInOrder both) listed c.in_order.ensures.order)
