use Rattle.std.proofs.{Common.{◌≡◌, sym, subst, rules}, lemmas.Fn.{always_returns_same}}
use Rattle.mm_machine.specs.Language.NumberedSymbols.{AreInOrder, name_numbers}
use Rattle.mm_frame.{specs.Code.KeptSortedLists.{HasSame}, proofs.lemmas.pairs.{PairListLemmas.{sorted_once, is_same_pair}, PairOrderLemmas.{sorted_in_order}}}
use Rattle.mm_frame.proofs.sorted_lists.in_order.Goals as goal

pub returns-clause-same : goal.returns-clause-same
returns-clause-same c = subst (HasSame c.args.pairs.items) (sym c.shrink_to_fit.ensures.items)
    (sorted_once c.args.pairs.items c.sort_unstable_by_key.new.self.items c.dedup.new.self.items c.sort_unstable_by_key.ensures.permutation c.dedup.ensures.filtered)

pub returns-clause-order : goal.returns-clause-order
returns-clause-order c low = subst AreInOrder (sym c.shrink_to_fit.ensures.items)
    (sorted_in_order is_same_pair c.args.pairs.items c.sort_unstable_by_key.new.self.items c.dedup.new.self.items c.sort_unstable_by_key.ensures.permutation
    (c.sort_unstable_by_key.ensures.sorted name_numbers (always_returns_same _ (λ a r. r ≡ name_numbers a.0.now) _ (λ a r q k. search rules)))
    c.dedup.ensures.filtered low)
