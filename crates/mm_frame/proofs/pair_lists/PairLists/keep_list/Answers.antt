use Rattle.std.proofs.Common.{[], append-nil, sym, subst, ◌∙◌}
use Rattle.mm_frame.{specs.{declared.pair_lists.PairLists.{PairLists}, Code.KeptPairLists.{IsList}}, proofs.lemmas.pairs.PairListLemmas.{lists_one_more, whole_front}}
use Rattle.mm_frame.proofs.pair_lists.PairLists.keep_list.Goals as goal

pub returns-clause-by_count : goal.returns-clause-by_count
returns-clause-by_count c all before h a e is m =
    let old = c.args.self.now in
    let disjoints = c.args.disjoints.now in
    let count = c.count_to_last-count.result in
    let new : PairLists = record { lists = old.lists; by_count = c.insert.new.self; reach = count } in
    let whole = c.count_to_last-count.ensures all before [] a (append-nil disjoints ∙ e) in
    lists_one_more all before old new count c.args.k (record { more = []; whole = sym (append-nil old.lists) }) m whole.within
    (subst (IsList all new c.args.k) (sym (whole_front before disjoints count h e whole)) (record { list = is.list; there = is.there; read = is.read; order = is.order }))
    (λ other. c.in_ok-insert.ensures.updates.0 other)
