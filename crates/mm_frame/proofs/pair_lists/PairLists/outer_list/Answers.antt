use Rattle.std.{proofs.{Common.{ℕ, ◌++◌, Some, cond, nat_eq, List, take, drop, take-append-drop, append_assoc, flat_map, sym, ap, subst, ◌∙◌}, lemmas.List.{take_rest}}, specs.HashMap.{get}}
use Rattle.mm_frame.specs.{Language.Framing.{active_pairs}, declared.pair_lists.PairLists.{PairLists}, Code.{KeptPairLists.{KeepsLists, pairs_among}, KeptLists.{item_list}}}
use Rattle.mm_frame.proofs.lemmas.{lists.Members.{In, in_left, in_right}, pairs.{ActivePairLemmas.{pairs_at}, PairListLemmas.{lists_one_more, front_and_more, active_read}}}
use Rattle.mm_machine.specs.Language.NumberedSymbols.{AreSamePairsRead}
use Rattle.mm_frame.proofs.pair_lists.PairLists.outer_list.Goals as goal

pub returns-clause-pairs : goal.returns-clause-pairs
returns-clause-pairs c all before rest h a e f m =
    let outer = c.args.outer.now in
    let n = c.listed_count-done.result in
    let done = take n outer in
    let own = drop n outer in
    let both = take-append-drop n outer in
    let whole = sym (append_assoc done own rest) ∙ ap (λ w. w ++ rest) both ∙ e in
    let front = c.count_to_last-front.ensures all before (own ++ rest) a whole in
    let added = flat_map (pairs_at before) own in
    let listed = λ (w : List ℕ). AreSamePairsRead all added (flat_map (λ k. pairs_among (item_list c.args.expressions.now k)) w) in
    let read = subst listed (sym (take_rest outer n)) (active_read all before c.args.expressions.now own a (λ k q. subst (λ w. In k w) whole (in_right k done (own ++ rest) (in_left k own rest q)))) in
    let joined = c.in_ok-k.ensures.pairs all (active_pairs (take c.count_to_last-front.result before)) added (c.in_ok-base.ensures.pairs all before h a front m) read in
    record { list = joined.list; there = joined.there; read = subst (λ w. AreSamePairsRead all w joined.list.items) (front_and_more before outer done own c.args.count c.count_to_last-front.result h both f front) joined.read; order = joined.order }

pub returns-clause-by_count : goal.returns-clause-by_count
returns-clause-by_count c all before rest h a e f m =
    let outer = c.args.outer.now in
    let n = c.listed_count-done.result in
    let count = c.args.count in
    let new : PairLists = record { lists = c.extended.new.self.lists; by_count = c.insert.new.self; reach = c.extended.new.self.reach } in
    let front = c.count_to_last-front.ensures all before (drop n outer ++ rest) a (sym (append_assoc (take n outer) (drop n outer) rest) ∙ ap (λ w. w ++ rest) (take-append-drop n outer) ∙ e) in
    let more = c.in_ok-k.ensures.kept in
    let keeps : KeepsLists c.first_list.new.self new = record { more = more.more; whole = more.whole } in
    lists_one_more all before c.first_list.new.self new count c.in_ok-k.k keeps (c.in_ok-base.ensures.by_count all before h a front m) f.within
    (returns-clause-pairs c all before rest h a e f m)
    (λ other. c.in_ok-insert.ensures.updates.0 other ∙ ap (λ w. cond (nat_eq count other) (Some c.in_ok-k.k) (get nat_eq w other)) c.in_ok-k.ensures.by_count)
