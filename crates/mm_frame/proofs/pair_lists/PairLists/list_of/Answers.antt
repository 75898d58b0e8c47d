use Rattle.std.{proofs.{Common.{ℕ, [], Some, cond, nat_eq, List, take, drop, take-append-drop, append-nil, flat_map, sym, ap, subst, ◌∙◌}, lemmas.List.{take_rest}}, specs.HashMap.{get}}
use Rattle.mm_frame.specs.{Language.Framing.{active_pairs}, declared.pair_lists.PairLists.{PairLists}, Code.{KeptPairLists.{KeepsLists, IsList, pairs_among}, KeptLists.{item_list}}}
use Rattle.mm_frame.proofs.lemmas.{lists.Members.{In, in_right}, pairs.{ActivePairLemmas.{pairs_at}, PairListLemmas.{lists_one_more, whole_front, front_and_own, active_read}}}
use Rattle.mm_machine.specs.Language.NumberedSymbols.{AreSamePairsRead}
use Rattle.mm_frame.proofs.pair_lists.PairLists.list_of.Goals as goal

pub returns-clause-pairs : goal.returns-clause-pairs
returns-clause-pairs c all before h a e m =
    let disjoints = c.args.disjoints.now in
    let n = c.outer_count-outer.result in
    let outer = take n disjoints in
    let own = drop n disjoints in
    let both = take-append-drop n disjoints ∙ e in
    let front = c.count_to_last-front.ensures all before own a both in
    let added = flat_map (pairs_at before) own in
    let listed = λ (w : List ℕ). AreSamePairsRead all added (flat_map (λ k. pairs_among (item_list c.args.expressions.now k)) w) in
    let read = subst listed (sym (take_rest disjoints n)) (active_read all before c.args.expressions.now own a (λ k q. subst (λ w. In k w) both (in_right k outer own q))) in
    let joined = c.in_ok-k.ensures.pairs all (active_pairs (take c.count_to_last-front.result before)) added (c.in_ok-base.ensures.pairs all before own h a both front m) read in
    record { list = joined.list; there = joined.there; read = subst (λ w. AreSamePairsRead all w joined.list.items) (front_and_own before outer own c.count_to_last-front.result h both front) joined.read; order = joined.order }

pub returns-clause-by_count : goal.returns-clause-by_count
returns-clause-by_count c all before h a e m =
    let disjoints = c.args.disjoints.now in
    let n = c.outer_count-outer.result in
    let count = c.count_to_last-count.result in
    let k = c.in_ok-k.k in
    let new : PairLists = record { lists = c.extended.new.self.lists; by_count = c.insert.new.self; reach = count } in
    let outer = c.count_to_last-front.ensures all before (drop n disjoints) a (take-append-drop n disjoints ∙ e) in
    let whole = c.count_to_last-count.ensures all before [] a (append-nil disjoints ∙ e) in
    let more = c.in_ok-k.ensures.kept in
    let keeps : KeepsLists c.outer_list.new.self new = record { more = more.more; whole = more.whole } in
    lists_one_more all before c.outer_list.new.self new count k keeps (c.in_ok-base.ensures.by_count all before (drop n disjoints) h a (take-append-drop n disjoints ∙ e) outer m) whole.within
    (subst (IsList all new k) (sym (whole_front before disjoints count h e whole)) (returns-clause-pairs c all before h a e m))
    (λ other. c.in_ok-insert.ensures.updates.0 other ∙ ap (λ w. cond (nat_eq count other) (Some k) (get nat_eq w other)) c.in_ok-k.ensures.by_count)

pub returns-in-Some-clause-pairs : goal.returns-in-Some-clause-pairs
returns-in-Some-clause-pairs c all before h a e m =
    let disjoints = c.args.disjoints.now in
    let front = c.count_to_last-count.ensures all before [] a (append-nil disjoints ∙ e) in
    subst (IsList all c.args.self.now c.in-Some.k) (whole_front before disjoints c.count_to_last-count.result h e front) (m c.count_to_last-count.result c.in-Some.k (sym c.list_for.ensures ∙ c.in-Some.is)).list
