use Rattle.std.proofs.Common.{take, flat_map, sym, subst, All}
use Rattle.mm_frame.specs.{Language.Framing.{active_pairs}, declared.pair_lists.PairLists.{PairLists}, Code.{KeptPairLists.{KeepsLists, pairs_among}, KeptLists.{item_list}, KeptSortedLists.{HasSame}}}
use Rattle.mm_frame.proofs.lemmas.pairs.{PairListLemmas.{lists_one_more, is_list, same_members, front_read}, PairOrderLemmas.{IsLowFirst, all_low}}
use Rattle.mm_frame.proofs.pair_lists.PairLists.first_list.Goals as goal

pub returns-clause-pairs : goal.returns-clause-pairs
returns-clause-pairs c all before h a front m =
    let new : PairLists = record { lists = c.keep.new.self; by_count = c.insert.new.self; reach = c.args.self.now.reach } in
    let there = c.in_ok-k.ensures.there in
    let listed = flat_map (λ n. pairs_among (item_list c.args.expressions.now n)) c.args.first.now in
    let kept = c.in_order.result.items in
    let pairs = active_pairs (take c.args.count before) in
    let same = subst (λ w. HasSame w kept) c.in_ok-pairs.ensures c.in_order.ensures.same in
    let low = subst (All IsLowFirst) (sym c.in_ok-pairs.ensures) (all_low c.args.expressions.now c.args.first.now) in
    is_list all new c.in_ok-k.k kept pairs there
    (same_members all pairs listed kept same (front_read all before c.args.expressions.now c.args.first.now c.args.count h a front)) (c.in_order.ensures.order low)

pub returns-clause-by_count : goal.returns-clause-by_count
returns-clause-by_count c all before h a front m =
    let new : PairLists = record { lists = c.keep.new.self; by_count = c.insert.new.self; reach = c.args.self.now.reach } in
    let keeps : KeepsLists c.args.self.now new = record { more = c.in_ok-k.ensures.kept.more; whole = c.in_ok-k.ensures.kept.whole } in
    let count = c.args.count in
    lists_one_more all before c.args.self.now new count c.in_ok-k.k keeps m front.within (returns-clause-pairs c all before h a front m)
    c.in_ok-insert.ensures.updates.0
