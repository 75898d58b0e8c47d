use Rattle.std.proofs.{Common.{◌++◌, flat_map, refl, sym, ap, subst, ◌∙◌, All}, lemmas.Result.{IfOk-weaker}}
use Rattle.mm_frame.specs.Code.{KeptPairLists.{pairs_among}, KeptSortedLists.{HasEach, HasSame, list_at, pairs_or_none}, KeptLists.{item_list}}
use Rattle.mm_frame.proofs.lemmas.pairs.{PairListLemmas.{is_list, joined_read, shared_same}, PairOrderLemmas.{IsLowFirst, all_low}, SortedLemmas.{both_of, is_within, stays_there}}
use Rattle.mm_frame.proofs.pair_lists.PairLists.extended.Goals as goal

pub returns-then-has_all-clause-pairs : goal.returns-then-has_all-clause-pairs
returns-then-has_all-clause-pairs c all said added is read =
    let own = flat_map (λ n. pairs_among (item_list c.args.expressions.now n)) c.args.own.now in
    let base = is.list.items in
    let each = subst (λ w. HasEach w own) (c.list.ensures ∙ ap pairs_or_none is.there) (subst (HasEach c.list.result.now) (c.deref.ensures.value ∙ c.in_ok-pairs.ensures) (c.if-has_all.ensures refl)) in
    record { list = is.list; there = is.there; read = joined_read all said added base own base is.read read (shared_same base own each); order = is.order }

pub returns-clause-pairs : goal.returns-clause-pairs
returns-clause-pairs c = IfOk-weaker c.joined.result _ _ (λ k joined all said added is read.
    let own = flat_map (λ n. pairs_among (item_list c.args.expressions.now n)) c.args.own.now in
    let base = is.list.items in
    let lists = c.keep.new.self in
    let there = c.in_ok-k.ensures.there in
    let same = subst (λ w. HasSame w c.in_order.result.items) c.in_ok-pairs.ensures c.in_order.ensures.same in
    let low = subst (All IsLowFirst) (sym c.in_ok-pairs.ensures) (all_low c.args.expressions.now c.args.own.now) in
    let based = stays_there c.args.self.now.lists lists c.args.base is.list c.in_ok-k.ensures.kept is.there in
    let both = joined (is_within lists c.in_ok-k.k there.list there.there) (is_within lists c.args.base is.list based) in
    let mine = ap pairs_or_none there.there ∙ there.same in
    let whole = both_of (list_at lists c.in_ok-k.k) (list_at lists c.args.base) own base c.in_order.result.items both.both mine (ap pairs_or_none based) same in
    is_list all _ k both.both (said ++ added) both.there (joined_read all said added base own both.both is.read read (whole both.has).0)
    ((whole both.has).1 (c.in_order.ensures.order low) is.order)) c.joined.ensures.joined
