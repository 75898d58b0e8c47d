use Rattle.std.proofs.Common.{[], flat_map, take_all, ap, ◌∙◌}
use Rattle.mm_frame.{specs.Code.{KeptPairLists.{pairs_among}, KeptLists.{item_list}}, proofs.lemmas.lists.Growing.{flat_map_grows}}
use Rattle.mm_frame.proofs.pair_lists.pairs_at.Goals as goal

pub loop-number-preserved : goal.loop-number-preserved
loop-number-preserved c = flat_map_grows (λ n. pairs_among (item_list c.args.expressions.now n)) c.args.disjoints.now c.loop-number.number-index 0 []
    c.loop-number.pairs.items c.add_pairs_at.new.pairs.items c.loop-number-test.true c.loop-number.invariant c.in_ok-add_pairs_at.ensures

pub returns : goal.returns
returns c = c.loop-number.invariant ∙ ap (flat_map (λ n. pairs_among (item_list c.args.expressions.now n))) (take_all c.loop-number.number-index c.args.disjoints.now c.loop-number-test.false)
