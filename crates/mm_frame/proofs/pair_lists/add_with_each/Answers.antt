use Rattle.std.proofs.Common.{◌∷◌, [], ◌++◌, map, take_all, ap, ◌∙◌}
use Rattle.mm_machine.specs.declared.symbol.NumberedSymbol.{NumberedSymbol}
use Rattle.mm_frame.{specs.Code.KeptPairLists.{with_low_first}, proofs.lemmas.lists.Growing.{map_grows}}
use Rattle.mm_frame.proofs.pair_lists.add_with_each.Goals as goal

pub loop-other-preserved : goal.loop-other-preserved
loop-other-preserved c =
    let items = c.loop-other.pairs.items in
    map_grows (λ (y : NumberedSymbol). with_low_first (c.args.first, y)) c.args.others.now c.loop-other.other-index _ c.args.pairs.now.items items
    c.push.new.self.items c.loop-other-test.true c.loop-other.invariant (c.in_ok-push.ensures.items ∙ ap (λ p. items ++ p ∷ []) c.low_first.ensures)

pub returns : goal.returns
returns c = c.loop-other.invariant ∙ ap (λ w. c.args.pairs.now.items ++ map (λ (y : NumberedSymbol). with_low_first (c.args.first, y)) w) (take_all c.loop-other.other-index c.args.others.now c.loop-other-test.false)
